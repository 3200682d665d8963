-- The components that are known so far, and the declarations so far.
use Rattle.std.proofs.Common.{◌≡◌, ℕ, Bool, true, false, cond, List, [], ◌∷◌, ◌++◌, Option, Some, None, refl, sym, ap, ◌∙◌, subst}
use Rattle.std.specs.Prelude.{nat_eq, is_some, if◌then◌else◌}
use Rattle.std.specs.Map.{lookup}
use Rattle.std.proofs.lemmas.Bool.{eqb-true}
use Rattle.fir_tree.specs.declared.part.Part.{Part}
use Rattle.reference_flow.specs.Flows.{Components, Declared}
use Rattle.type_check.specs.Parts.{Known, component, known_with}
use Rattle.check_laws.proofs.Typing.{some_same, none_some}
use Rattle.check_laws.proofs.Steps.{StandsFor}

-- a part that is known, and one that is declared
pub data Both : Option Part → Option Part → Type 0 where
  neither : Both None None
  both : {q p : Part} → StandsFor p q → Both (Some q) (Some p)

-- each name means the same part in both
abbrev pub Agree : Known → Declared → Type 0
Agree known before = (name : ℕ) → Both (component known name) (lookup (nat_eq name) before)

abbrev or_else : Option Part → Option Part → Option Part
or_else (Some x) o = Some x
or_else None o = o

lookup-append : (t : ℕ → Bool) (xs ys : List (ℕ × Part)) → lookup t (xs ++ ys) ≡ or_else (lookup t xs) (lookup t ys)
lookup-append t [] ys = refl
lookup-append t (x ∷ xs) ys = by (t x.0) (lookup-append t xs ys) where
  by : (b : Bool) → lookup t (xs ++ ys) ≡ or_else (lookup t xs) (lookup t ys) → cond b (Some x.1) (lookup t (xs ++ ys)) ≡ or_else (cond b (Some x.1) (lookup t xs)) (lookup t ys)
  by true h = refl
  by false h = h

both_else : {a b c d : Option Part} → Both a b → Both c d → Both (or_else a c) (or_else b d)
both_else neither h = h
both_else (both s) h = both s

-- one that is known already is the first that is declared
first_counts : {a b : Option Part} (o : Option Part) → Both a b → is_some a ≡ true → Both a (or_else b o)
first_counts o neither h = cc
first_counts o (both s) h = both s

and_none : {a b : Option Part} → Both a b → Both a (or_else b None)
and_none neither = neither
and_none (both s) = both s

pub agree_with : (known : Known) (before : Declared) (name : ℕ) (p q : Part) → StandsFor p q → Agree known before → Agree (known_with known name (Some q)) (before ++ (name, p) ∷ [])
agree_with known before name p q s a x =
    subst (Both (component (known_with known name (Some q)) x)) (sym (lookup-append (nat_eq x) before ((name, p) ∷ []))) (by (is_some (component known name)) refl) where
      one : (b : Bool) → Both (cond b (Some q) None) (cond b (Some p) None)
      one true = both s
      one false = neither

      old : (b : Bool) → nat_eq x name ≡ b → is_some (component known name) ≡ true → Both (component known x) (or_else (lookup (nat_eq x) before) (cond b (Some p) None))
      old true e h = first_counts (Some p) (a x) (ap (λ n. is_some (component known n)) (eqb-true x name e) ∙ h)
      old false e h = and_none (a x)

      by : (b : Bool) → is_some (component known name) ≡ b
          → Both (component (if b then known else known ++ (name, q) ∷ []) x) (or_else (lookup (nat_eq x) before) (cond (nat_eq x name) (Some p) None))
      by true e = old (nat_eq x name) refl e
      by false e = subst (λ o. Both o (or_else (lookup (nat_eq x) before) (cond (nat_eq x name) (Some p) None))) (sym (lookup-append (nat_eq x) known ((name, q) ∷ [])))
          (both_else (a x) (one (nat_eq x name)))

-- The components of a module

-- what is declared is what its name means in the module
abbrev pub Fits : Components → Declared → Type 0
Fits c d = (name : ℕ) (p : Part) → lookup (nat_eq name) d ≡ Some p → c name ≡ p

pub fits_left : (c : Components) (xs ys : Declared) → Fits c (xs ++ ys) → Fits c xs
fits_left c xs ys h name p e = h name p (lookup-append (nat_eq name) xs ys ∙ ap (λ o. or_else o (lookup (nat_eq name) ys)) e)

-- what is known is what its name means in the module
abbrev pub Serves : Components → Known → Type 0
Serves c known = (name : ℕ) (q : Part) → component known name ≡ Some q → StandsFor (c name) q

pub serves : (c : Components) (known : Known) (d : Declared) → Agree known d → Fits c d → Serves c known
serves c known d a f name q e = by (component known name) (lookup (nat_eq name) d) (a name) e refl where
  by : (o r : Option Part) → Both o r → o ≡ Some q → lookup (nat_eq name) d ≡ r → StandsFor (c name) q
  by None None neither e l = absurd (none_some e)
  by None (Some p) h e l = elim h [ ]
  by (Some x) None h e l = elim h [ ]
  by (Some x) (Some p) (both s) e l = subst (λ z. StandsFor z q) (sym (f name p l)) (subst (StandsFor p) (some_same e) s)
