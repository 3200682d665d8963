-- The scopes of a circuit agree.
use Rattle.std.proofs.Common.{◌≡◌, ℕ, Bool, true, false, List, [], ◌∷◌, refl, ap, ap₂, ◌∙◌, arith}
use Rattle.std.specs.Prelude.{Contains, nat_lt}
use Rattle.std.specs.List.{flat_map, AllZip}
use Rattle.std.proofs.lemmas.Bool.{ltb-true, ltb-false}
use Rattle.fir_types.specs.declared.name.Name.{Name}
use Rattle.fir_tree.specs.declared.circuit.Circuit.{Circuit}
use Rattle.fir_tree.specs.declared.scope.Scope.{Scope}
use Rattle.place_text.specs.First.{HasNone}
use Rattle.fir_names.specs.Extents.{uses_in, instances_in}
use Rattle.fir_names.specs.Scopes.{FirstOf, Means, Names, IsScope}
use Rattle.fir_names.specs.Faults.{IsFault}
use Rattle.fir_names.proofs.Reached.{reached_once}
use Rattle.check_laws.proofs.Meaning.{means_once}
use Rattle.fir_names.proofs.Members.{Contains-first, Contains-later, Contains-from_flat_map}

first_once : {xs : List ℕ} {t i j : ℕ} → FirstOf xs t i → FirstOf xs t j → i ≡ j
first_once {xs} {t} {i} {j} f g = by (nat_lt i j) refl (nat_lt j i) refl
  where
    by : (b : Bool) → nat_lt i j ≡ b → (c : Bool) → nat_lt j i ≡ c → i ≡ j
    by true e c h = absurd (g.first i (ltb-true i j e) f.has)
    by false e true h = absurd (f.first j (ltb-true j i h) g.has)
    by false e false h = omega (arith, ltb-false i j e, ltb-false j i h)

-- Where each item has one partner, two lists of partners are the same.
zip_once : {X : Type 0} (R : X → ℕ → Type 0) (xs : List X) (ys zs : List ℕ) → ((x : X) → Contains xs x → (y z : ℕ) → R x y → R x z → y ≡ z) → AllZip R xs ys → AllZip R xs zs → ys ≡ zs
zip_once R [] [] [] h a b = refl
zip_once R [] (y ∷ ys) zs h a b = absurd a
zip_once R [] [] (z ∷ zs) h a b = absurd b
zip_once R (x ∷ xs) [] zs h a b = absurd a
zip_once R (x ∷ xs) (y ∷ ys) [] h a b = absurd b
zip_once R (x ∷ xs) (y ∷ ys) (z ∷ zs) h a b =
    ap₂ (λ n ns. n ∷ ns) (h x (Contains-first xs) y z a.0 b.0) (zip_once R xs ys zs (λ w i. h w (Contains-later x xs i)) a.1 b.1)

pub targets_once : (circuit : Circuit) (first second : Scope) → IsScope circuit first → IsScope circuit second → first.targets ≡ second.targets
targets_once circuit first second f s =
    zip_once (λ (target : Name) number. Means circuit target.id number) (flat_map instances_in circuit.modules) first.targets second.targets (λ target i y z a b. first_once a b) f.targets s.targets

uses_once : (circuit : Circuit) (first second : Scope) → HasNone (IsFault circuit) → IsScope circuit first → IsScope circuit second → first.uses ≡ second.uses
uses_once circuit first second none f s =
    zip_once Names (flat_map uses_in circuit.modules) first.uses second.uses
    (λ u i y z a b. let h = Contains-from_flat_map uses_in circuit.modules u i in means_once circuit none h.0 h.1 u h.2 y z a b) f.uses s.uses

scope_by_fields : (a b : Scope) → a.reached ≡ b.reached → a.uses ≡ b.uses → a.targets ≡ b.targets → a ≡ b
scope_by_fields a b r u t =
    ap (λ x. record { reached = x; uses = a.uses; targets = a.targets }) r
    ∙ ap (λ x. record { reached = b.reached; uses = x; targets = a.targets }) u
    ∙ ap (λ x. record { reached = b.reached; uses = b.uses; targets = x }) t

pub scopes_once : (circuit : Circuit) (first second : Scope) → HasNone (IsFault circuit) → IsScope circuit first → IsScope circuit second → first ≡ second
scopes_once circuit first second none f s =
    scope_by_fields first second (reached_once circuit first second f s) (uses_once circuit first second none f s) (targets_once circuit first second f s)
