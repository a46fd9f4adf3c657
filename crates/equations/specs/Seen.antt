-- The code's equations as the definitions see them.
use Rattle.equations.specs.declared.Equations.{Equations}
use Rattle.equations.specs.View.{View, view_of}

-- their table under their settings
abbrev pub seen : Equations → View
seen e = view_of e.table.bytes.now e.table.shape e.settings.now
