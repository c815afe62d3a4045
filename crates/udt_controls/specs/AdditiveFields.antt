-- The fields of an additive control, as what it knows.
use Rattle.udt_controls.specs.declared.aimd.Aimd.TheInside.{Inside}
use Rattle.udt_model.specs.Controls.{Additive}

-- the fields, each under its name
abbrev pub additive_of : Inside → Additive
additive_of a =
    record { window = a.window; threshold = a.threshold; rest = a.rest; last_dec = a.last_dec }
