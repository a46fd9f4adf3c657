-- What a program answers where no case follows.
use Rattle.std.specs.Prelude.{Result, Ok, Err}
use Rattle.std.specs.declared.io.Error.{Error}
use Rattle.harness.specs.declared.input.Stop.{Stop}
use Rattle.harness.specs.declared.input.Stop.TheVariants.{Over, Failed}

-- all is well where the cases are over, and else the error
abbrev pub stopped : Stop → Result (Unit {0}) Error
stopped Over = Ok tt
stopped (Failed error) = Err error
