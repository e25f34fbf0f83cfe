-- What calls make of sessions.
use Rattle.std.specs.Prelude.{ℕ, ◌+◌, min, Option, None, Some}
use Rattle.example_sessions.specs.declared.session.Session.{Session}
use Rattle.example_sessions.specs.declared.session.Step.{Step}
use Rattle.example_sessions.specs.declared.session.Step.TheVariants.{Open, Touch}

-- a session is opened where there is none, and touched where there is one
abbrev pub stepped : Step → Option Session → Option Session
stepped (Open deadline) None = Some (record { deadline = deadline; touches = 0 })
stepped (Open _) (Some session) = Some session
stepped (Touch _) None = None
stepped (Touch deadline) (Some session) =
    Some (record { deadline = deadline; touches = min (session.touches + 1) 18446744073709551615 })
