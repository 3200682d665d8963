-- What is found under a name, behind one more.
use Rattle.std.proofs.Common.{◌≡◌, ◌≢◌, ℕ, Bool, true, false, cond, if◌then◌else◌, [], ◌∷◌, ◌++◌, Option, Some, None, refl, ap, ◌∙◌}
use Rattle.std.specs.Prelude.{nat_eq, is_some}
use Rattle.std.specs.Map.{lookup}
use Rattle.std.proofs.lemmas.Bool.{eq-eqb, ne_eqb}
use Rattle.fir_types.specs.declared.fir_type.FirType.{FirType}
use Rattle.size_check.specs.Typings.{Known, known_with}

abbrev or_else : Option FirType → Option FirType → Option FirType
or_else (Some t) other = Some t
or_else None other = other

-- the new one, where it has the name
abbrev new_one : ℕ → ℕ → FirType → Option FirType
new_one x name typ = cond (nat_eq x name) (Some typ) None

found_behind : (known : Known) (name x : ℕ) (typ : FirType) → lookup (nat_eq x) (known ++ (name, typ) ∷ []) ≡ or_else (lookup (nat_eq x) known) (new_one x name typ)
found_behind [] name x typ = refl
found_behind (e ∷ known) name x typ = by (nat_eq x e.0) (found_behind known name x typ)
  where
    by : (b : Bool) → lookup (nat_eq x) (known ++ (name, typ) ∷ []) ≡ or_else (lookup (nat_eq x) known) (new_one x name typ)
        → cond b (Some e.1) (lookup (nat_eq x) (known ++ (name, typ) ∷ [])) ≡ or_else (cond b (Some e.1) (lookup (nat_eq x) known)) (new_one x name typ)
    by true r = refl
    by false r = r

found_with : (known : Known) (name x : ℕ) (typ : FirType)
    → lookup (nat_eq x) (known_with known name typ) ≡ (if is_some (lookup (nat_eq name) known) then lookup (nat_eq x) known else or_else (lookup (nat_eq x) known) (new_one x name typ))
found_with known name x typ = by (is_some (lookup (nat_eq name) known))
  where
    by : (b : Bool) → lookup (nat_eq x) (if b then known else known ++ (name, typ) ∷ []) ≡ (if b then lookup (nat_eq x) known else or_else (lookup (nat_eq x) known) (new_one x name typ))
    by true = refl
    by false = found_behind known name x typ

-- What was found stays.
pub kept_found : (known : Known) (name x : ℕ) (typ old : FirType) → lookup (nat_eq x) known ≡ Some old → lookup (nat_eq x) (known_with known name typ) ≡ Some old
kept_found known name x typ old h = found_with known name x typ ∙ by (is_some (lookup (nat_eq name) known))
  where
    by : (b : Bool) → (if b then lookup (nat_eq x) known else or_else (lookup (nat_eq x) known) (new_one x name typ)) ≡ Some old
    by true = h
    by false = ap (λ o. or_else o (new_one x name typ)) h

-- What wasn't there is found.
pub new_found : (known : Known) (name : ℕ) (typ : FirType) → lookup (nat_eq name) known ≡ None → lookup (nat_eq name) (known_with known name typ) ≡ Some typ
new_found known name typ h =
    found_with known name name typ ∙ ap (λ o. if is_some o then o else or_else o (new_one name name typ)) h
    ∙ ap (λ b. cond b (Some typ) None) (eq-eqb name name refl)

-- Another name is as unknown as before.
pub still_none : (known : Known) (name x : ℕ) (typ : FirType) → x ≢ name → lookup (nat_eq x) known ≡ None → lookup (nat_eq x) (known_with known name typ) ≡ None
still_none known name x typ other h = found_with known name x typ ∙ by (is_some (lookup (nat_eq name) known))
  where
    by : (b : Bool) → (if b then lookup (nat_eq x) known else or_else (lookup (nat_eq x) known) (new_one x name typ)) ≡ None
    by true = h
    by false = ap (λ o. or_else o (new_one x name typ)) h ∙ ap (λ b. cond b (Some typ) None) (ne_eqb x name other)
