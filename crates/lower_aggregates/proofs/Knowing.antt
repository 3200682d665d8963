-- The components by their names, one after another.
use Rattle.std.proofs.Common.{◌≡◌, ℕ, ◌+◌, ◌<◌, Bool, true, false, List, [], ◌∷◌, ◌++◌, map, length, take, get_or, refl, sym, ap, ◌∙◌, if◌then◌else◌, true≢false}
use Rattle.std.specs.Prelude.{is_some, cond, nat_eq, Option, Some, None}
use Rattle.std.specs.Map.{lookup}
use Rattle.std.proofs.lemmas.List.{map_more}
use Rattle.std.proofs.lemmas.Bool.{eqb-true}
use Rattle.ground_exprs.specs.declared.component.Component.{Component}
use Rattle.ground_exprs.specs.Sources.{Entries}
use Rattle.lower_aggregates.specs.declared.pieces.Piece.{Piece}
use Rattle.lower_aggregates.specs.Views.{KnowsPieces, entry_of, component_of, with_new}

abbrev or_else : {X : Type 0} → Option X → Option X → Option X
or_else (Some x) o = Some x
or_else None o = o

lookup-append : (xs ys : Entries) (id : ℕ) → lookup (nat_eq id) (xs ++ ys) ≡ or_else (lookup (nat_eq id) xs) (lookup (nat_eq id) ys)
lookup-append [] ys id = refl
lookup-append (x ∷ xs) ys id = by (nat_eq id x.0) (lookup-append xs ys id)
  where
    by : (b : Bool) → lookup (nat_eq id) (xs ++ ys) ≡ or_else (lookup (nat_eq id) xs) (lookup (nat_eq id) ys)
        → cond b (Some x.1) (lookup (nat_eq id) (xs ++ ys)) ≡ or_else (cond b (Some x.1) (lookup (nat_eq id) xs)) (lookup (nat_eq id) ys)
    by true h = refl
    by false h = h

-- a name that is known keeps its component
new_lookup : (entries : Entries) (p : Piece) (id : ℕ) → lookup (nat_eq id) (with_new entries p) ≡ or_else (lookup (nat_eq id) entries) (cond (nat_eq id p.name.id) (Some (component_of p)) None)
new_lookup entries p id = by (lookup (nat_eq p.name.id) entries) refl
  where
    stays : (c : Component) → lookup (nat_eq p.name.id) entries ≡ Some c → (o : Option Component) → lookup (nat_eq id) entries ≡ o → (b : Bool) → nat_eq id p.name.id ≡ b
        → o ≡ or_else o (cond b (Some (component_of p)) None)
    stays c e (Some k) f b g = refl
    stays c e None f false g = refl
    stays c e None f true g = absurd (true≢false (sym (ap is_some e) ∙ ap is_some (ap (λ k. lookup (nat_eq k) entries) (sym (eqb-true id p.name.id g)) ∙ f)))

    by : (o : Option Component) → lookup (nat_eq p.name.id) entries ≡ o
        → lookup (nat_eq id) (if is_some o then entries else entries ++ entry_of p ∷ []) ≡ or_else (lookup (nat_eq id) entries) (cond (nat_eq id p.name.id) (Some (component_of p)) None)
    by (Some c) e = stays c e (lookup (nat_eq id) entries) refl (nat_eq id p.name.id) refl
    by None e = lookup-append entries (entry_of p ∷ []) id

pub known_more : (pieces : List Piece) (i : ℕ) (p : Piece) (entries after : Entries) → i < length pieces → p ≡ get_or pieces i p → KnowsPieces (take i pieces) entries
    → after ≡ with_new entries p → KnowsPieces (take (i + 1) pieces) after
known_more pieces i p entries after lt is h e id =
    let split : map entry_of (take (i + 1) pieces) ≡ map entry_of (take i pieces) ++ entry_of p ∷ [] =
    map_more entry_of pieces i p lt ∙ ap (λ x. map entry_of (take i pieces) ++ entry_of x ∷ []) (sym is) in
    ap (lookup (nat_eq id)) e ∙ new_lookup entries p id ∙ ap (λ o. or_else o (cond (nat_eq id p.name.id) (Some (component_of p)) None)) (h id)
    ∙ sym (lookup-append (map entry_of (take i pieces)) (entry_of p ∷ []) id) ∙ sym (ap (lookup (nat_eq id)) split)
