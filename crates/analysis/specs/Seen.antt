-- The code's equations of a table as the theory's system.
use Rattle.rounds.specs.System.{System}
use Rattle.equations.specs.declared.Equations.{Equations}
use Rattle.equations.specs.Seen.{seen}
use Rattle.equations.specs.Equations.{system_of}

-- the system that the equations of a table under some settings are
abbrev pub equations_in : Equations → System
equations_in e = system_of (seen e)
