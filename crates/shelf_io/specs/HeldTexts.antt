-- Texts that are held in memory.
use Rattle.std.specs.Prelude.{ℕ, List, [], ◌∷◌, Bool, false, Option, Some, None, if◌then◌else◌, string_bytes, slice_get, drop}
use Rattle.std.specs.Option.{option_map_or, option_map}
use Rattle.std.specs.Str.{bytes_eq}
use Rattle.std.specs.declared.string.String.{String}
use Rattle.std.specs.declared.vec.Vec.{Vec}
use Rattle.std.specs.declared.alloc.Global.{Global}

-- a name, and the text that it holds
abbrev pub NamedText : Type 0
NamedText = String Global × Vec ℕ Global

-- the first text of the name
abbrev pub text_of : List NamedText → List ℕ → Option (List ℕ)
text_of [] name = None
text_of (t ∷ ts) name = if bytes_eq (string_bytes t.0) name then Some t.1.items else text_of ts name

-- what is left of the text of this number
abbrev pub left_of : List NamedText → Option ℕ → ℕ → Option (List ℕ)
left_of texts None at = None
left_of texts (Some i) at = option_map (λ t. drop at t.1.items) (slice_get texts i)

-- whether the text of this number has the name
abbrev pub has_name : List NamedText → Option ℕ → List ℕ → Bool
has_name texts None name = false
has_name texts (Some i) name = option_map_or (λ t. bytes_eq (string_bytes t.0) name) (slice_get texts i) false
