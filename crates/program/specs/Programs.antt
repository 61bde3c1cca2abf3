-- What a program that answers a script has done when it succeeds.
use Rattle.std.specs.Prelude.{◌≡◌, ℕ, List, String, string_bytes}
use Rattle.std.specs.declared.alloc.Global.{Global}

-- some script got the text that answers it
abbrev pub Transcribed : (List ℕ → List ℕ) → Type 0
Transcribed answers = (script : List ℕ) × (out : String Global) × (string_bytes out ≡ answers script)
