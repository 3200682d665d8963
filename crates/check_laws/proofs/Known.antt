-- Components that are known stay known, and what is declared is known then.
use Rattle.std.proofs.Common.{◌≡◌, ℕ, Bool, true, false, cond, ◌||◌, List, [], ◌∷◌, ◌++◌, map, Option, Some, None, refl, sym, ap, ◌∙◌, subst, ⊎_elim}
use Rattle.std.proofs.lemmas.List.Elements.{Contains-append_cases}
use Rattle.std.specs.Prelude.{Contains, nat_eq, is_some, if◌then◌else◌}
use Rattle.std.specs.Map.{lookup}
use Rattle.std.proofs.lemmas.Bool.{eq-eqb}
use Rattle.fir_types.specs.declared.name.Name.{Name}
use Rattle.fir_tree.specs.declared.part.Part.{Part}
use Rattle.type_check.specs.Parts.{Known, component, known_with}
use Rattle.fir_names.specs.Extents.{Seen}
use Rattle.circuit_laws.specs.Names.{Every}
use Rattle.circuit_laws.proofs.Scoping.{AllNamed}
use Rattle.check_laws.proofs.Standing.{IsIn}
use Rattle.fir_names.proofs.Members.{Contains-none, Contains-one}

abbrev pub has : Known → ℕ → Bool
has known name = is_some (component known name)

abbrev pub Kept : Known → Known → Type 0
Kept known more = (name : ℕ) → has known name ≡ true → has more name ≡ true

has_more : (known : Known) (name x : ℕ) (v : Part) → has (known ++ (name, v) ∷ []) x ≡ (has known x || nat_eq x name)
has_more [] name x v = by (nat_eq x name) where
  by : (b : Bool) → is_some (cond b (Some v) None) ≡ b
  by true = refl
  by false = refl
has_more (e ∷ known) name x v = by (nat_eq x e.0) (has_more known name x v) where
  by : (b : Bool) → has (known ++ (name, v) ∷ []) x ≡ (has known x || nat_eq x name)
      → is_some (cond b (Some e.1) (lookup (nat_eq x) (known ++ (name, v) ∷ []))) ≡ (is_some (cond b (Some e.1) (lookup (nat_eq x) known)) || nat_eq x name)
  by true r = refl
  by false r = r

pub kept_with : (known : Known) (name : ℕ) (o : Option Part) → Kept known (known_with known name o)
kept_with known name None x h = h
kept_with known name (Some v) x h = by (has known name) where
  by : (b : Bool) → has (if b then known else known ++ (name, v) ∷ []) x ≡ true
  by true = h
  by false = has_more known name x v ∙ ap (λ b. b || nat_eq x name) h

either : (a b : Bool) → b ≡ true → (a || b) ≡ true
either true b h = refl
either false b h = h

pub with_itself : (known : Known) (name : ℕ) (v : Part) → has (known_with known name (Some v)) name ≡ true
with_itself known name v = by (has known name) refl where
  by : (b : Bool) → has known name ≡ b → has (if b then known else known ++ (name, v) ∷ []) name ≡ true
  by true q = q
  by false q = has_more known name name v ∙ either (has known name) (nat_eq name name) (eq-eqb name name refl)

-- what is seen is known
abbrev pub SeenIn : Known → List Seen → Type 0
SeenIn known = Every Seen (λ s. has known s.0 ≡ true)

pub seen_more : (known more : Known) (seen : List Seen) → Kept known more → SeenIn known seen → SeenIn more seen
seen_more known more [] h s = tt
seen_more known more (x ∷ seen) h s = (h x.0 s.0, seen_more known more seen h s.1)

seen_at : (known : Known) (seen : List Seen) (s : Seen) → SeenIn known seen → Contains seen s → has known s.0 ≡ true
seen_at known [] s h i = absurd (Contains-none i)
seen_at known (t ∷ seen) s h i = ⊎_elim (λ l. subst (λ (z : Seen). has known z.0 ≡ true) (sym (Contains-one l)) h.0) (λ r. seen_at known seen s h.1 r) (Contains-append_cases (t ∷ []) seen _ i)

pub named_known : (known : Known) (seen : List Seen) → SeenIn known seen → (ns : List Name) → AllNamed (map (λ name. record { name = name; seen = seen }) ns) → Every Name (IsIn known) ns
named_known known seen h [] a = tt
named_known known seen h (n ∷ ns) a = (seen_at known seen (n.id, a.0.0) h a.0.1, named_known known seen h ns a.1)
