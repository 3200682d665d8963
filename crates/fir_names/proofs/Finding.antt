-- Names with their numbers, and names that stand twice.
use Rattle.std.proofs.Common.{◌≡◌, ℕ, ◌+◌, ◌<◌, Bool, true, false, List, [], ◌∷◌, ◌++◌, length, take, get_or, refl, sym, ap, ap₂, ◌∙◌, arith, append_assoc, append-nil, ◌||◌, not}
use Rattle.std.specs.Prelude.{nat_eq}
use Rattle.std.specs.List.{list_any}
use Rattle.std.proofs.lemmas.List.{take_more, map-append, length-take-le, nil_from_length}
use Rattle.std.proofs.lemmas.List.Folds.{list_any-append}
use Rattle.indexmap.specs.IndexSet.{insert_key}
use Rattle.fir_types.proofs.Held.{held_key}
use Rattle.fir_types.specs.declared.name.Name.{Name}
use Rattle.place_text.specs.declared.place.Place.{Place}
use Rattle.fir_names.specs.declared.fault.NameFault.{NameFault}
use Rattle.fir_names.specs.Extents.{Seen}
use Rattle.fir_names.specs.Scopes.{texts}
use Rattle.fir_names.specs.Walks.{kept_of, kept_with}
use Rattle.fir_names.specs.Finds.{numbered, fault_where, twice_behind}
use Rattle.fir_names.proofs.Walking.{kept-push, nothing_kept}

numbered-append : (n : ℕ) (xs ys : List Name) → numbered n (xs ++ ys) ≡ numbered n xs ++ numbered (n + length xs) ys
numbered-append n [] ys = ap (λ k. numbered k ys) (omega arith)
numbered-append n (x ∷ xs) ys = ap (λ l. (x.id, n) ∷ l) (numbered-append (n + 1) xs ys ∙ ap (λ k. numbered (n + 1) xs ++ numbered k ys) (omega arith))

pub numbers_none : (entries : List Seen) → length entries ≡ 0 → entries ≡ kept_of []
numbers_none entries e = nil_from_length entries e ∙ sym nothing_kept

pub numbers_more : (names : List Name) (i : ℕ) (d : Name) (entries after : List Seen) → i < length names → entries ≡ kept_of (numbered 0 (take i names))
    → (number : ℕ) → number ≡ i → after ≡ kept_with entries ((get_or names i d).id, number) → after ≡ kept_of (numbered 0 (take (i + 1) names))
numbers_more names i d entries after lt e number same g =
    let x = get_or names i d in
    let n : 0 + length (take i names) ≡ i = omega (arith, length-take-le i names (omega (arith, lt))) in
    let f : after ≡ kept_with entries (x.id, i) = g ∙ ap (λ k. kept_with entries (x.id, k)) same in
    f ∙ ap (λ k. kept_with k (x.id, i)) e ∙ kept-push (numbered 0 (take i names)) (x.id, i)
    ∙ ap kept_of (ap (λ k. numbered 0 (take i names) ++ (x.id, k) ∷ []) (sym n) ∙ sym (numbered-append 0 (take i names) (x ∷ [])) ∙ ap (numbered 0) (sym (take_more names i d lt)))

twice-append : (says : Place → NameFault) (before xs ys : List Name) → twice_behind says before (xs ++ ys) ≡ twice_behind says before xs ++ twice_behind says (before ++ xs) ys
twice-append says before [] ys = ap (λ b. twice_behind says b ys) (sym (append-nil before))
twice-append says before (x ∷ xs) ys =
    ap (λ l. fault_where (list_any (nat_eq x.id) (texts before)) (says x.place) ++ l)
    (twice-append says (before ++ x ∷ []) xs ys ∙ ap (λ b. twice_behind says (before ++ x ∷ []) xs ++ twice_behind says b ys) (append_assoc before (x ∷ []) xs))
    ∙ sym (append_assoc (fault_where (list_any (nat_eq x.id) (texts before)) (says x.place)) _ _)

not_not : (b : Bool) → not (not b) ≡ b
not_not true = refl
not_not false = refl

pub twice_more : (says : Place → NameFault) (names : List Name) (i : ℕ) (d : Name) (old faults after : List NameFault) (keys keys' : List ℕ) (added : Bool) → i < length names
    → faults ≡ old ++ twice_behind says [] (take i names) → ((t : ℕ) → list_any (nat_eq t) keys ≡ list_any (nat_eq t) (texts (take i names)))
    → added ≡ not (list_any (nat_eq (get_or names i d).id) keys) → after ≡ faults ++ fault_where (not added) (says (get_or names i d).place)
    → after ≡ old ++ twice_behind says [] (take (i + 1) names)
twice_more says names i d old faults after keys keys' added lt e held a f =
    let x = get_or names i d in
    let again : not added ≡ list_any (nat_eq x.id) (texts (take i names)) = ap not a ∙ not_not _ ∙ held x.id in
    f ∙ ap₂ (λ l b. l ++ fault_where b (says x.place)) e again ∙ append_assoc old _ _
    ∙ ap (λ l. old ++ l) (ap (λ l. twice_behind says [] (take i names) ++ l) (sym (append-nil _)) ∙ sym (twice-append says [] (take i names) (x ∷ [])) ∙ ap (twice_behind says []) (sym (take_more names i d lt)))

pub held_more : (names : List Name) (i : ℕ) (d : Name) (keys keys' : List ℕ) → i < length names → ((t : ℕ) → list_any (nat_eq t) keys ≡ list_any (nat_eq t) (texts (take i names)))
    → keys' ≡ insert_key nat_eq keys (get_or names i d).id → (t : ℕ) → list_any (nat_eq t) keys' ≡ list_any (nat_eq t) (texts (take (i + 1) names))
held_more names i d keys keys' lt held f t =
    let x = get_or names i d in
    ap (list_any (nat_eq t)) f ∙ held_key keys x.id t ∙ ap (λ b. b || (nat_eq t x.id || false)) (held t) ∙ sym (list_any-append (nat_eq t) (texts (take i names)) (x.id ∷ []))
    ∙ ap (list_any (nat_eq t)) (sym (map-append (λ (n : Name). n.id) (take i names) (x ∷ [])) ∙ ap texts (sym (take_more names i d lt)))
