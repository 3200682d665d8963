-- The numbers of names, one name after another.
use Rattle.std.proofs.Common.{◌≡◌, ℕ, ◌+◌, ◌<◌, Bool, true, false, List, [], ◌∷◌, ◌++◌, length, take, get_or, refl, sym, ap, ◌∙◌, if◌then◌else◌, arith, true≢false}
use Rattle.std.specs.Prelude.{is_some, cond, nat_eq, Option, Some, None}
use Rattle.std.specs.Map.{lookup}
use Rattle.std.proofs.lemmas.List.{take_more, length-take-le}
use Rattle.std.proofs.lemmas.Bool.{eqb-true}
use Rattle.fir_types.specs.declared.name.Name.{Name}
use Rattle.fir_names.specs.Finds.{numbered}
use Rattle.drive_check.specs.Typing.{IsPlaced, with_new}

abbrev pub or_else : {X : Type 0} → Option X → Option X → Option X
or_else (Some x) o = Some x
or_else None o = o

pub lookup-append : (xs ys : List (ℕ × ℕ)) (id : ℕ) → lookup (nat_eq id) (xs ++ ys) ≡ or_else (lookup (nat_eq id) xs) (lookup (nat_eq id) ys)
lookup-append [] ys id = refl
lookup-append (x ∷ xs) ys id = by (nat_eq id x.0) (lookup-append xs ys id)
  where
    by : (b : Bool) → lookup (nat_eq id) (xs ++ ys) ≡ or_else (lookup (nat_eq id) xs) (lookup (nat_eq id) ys)
        → cond b (Some x.1) (lookup (nat_eq id) (xs ++ ys)) ≡ or_else (cond b (Some x.1) (lookup (nat_eq id) xs)) (lookup (nat_eq id) ys)
    by true h = refl
    by false h = h

numbered-append : (n : ℕ) (xs ys : List Name) → numbered n (xs ++ ys) ≡ numbered n xs ++ numbered (n + length xs) ys
numbered-append n [] ys = ap (λ k. numbered k ys) (omega arith)
numbered-append n (x ∷ xs) ys = ap (λ l. (x.id, n) ∷ l) (numbered-append (n + 1) xs ys ∙ ap (λ k. numbered (n + 1) xs ++ numbered k ys) (omega arith))

-- a name that has a number keeps it
new_lookup : (numbers : List (ℕ × ℕ)) (key i id : ℕ) → lookup (nat_eq id) (with_new numbers key i) ≡ or_else (lookup (nat_eq id) numbers) (cond (nat_eq id key) (Some i) None)
new_lookup numbers key i id = by (lookup (nat_eq key) numbers) refl
  where
    stays : (j : ℕ) → lookup (nat_eq key) numbers ≡ Some j → (o : Option ℕ) → lookup (nat_eq id) numbers ≡ o → (b : Bool) → nat_eq id key ≡ b → o ≡ or_else o (cond b (Some i) None)
    stays j e (Some k) f b g = refl
    stays j e None f false g = refl
    stays j e None f true g = absurd (true≢false (sym (ap is_some e) ∙ ap is_some (ap (λ k. lookup (nat_eq k) numbers) (sym (eqb-true id key g)) ∙ f)))

    by : (o : Option ℕ) → lookup (nat_eq key) numbers ≡ o
        → lookup (nat_eq id) (if is_some o then numbers else numbers ++ (key, i) ∷ []) ≡ or_else (lookup (nat_eq id) numbers) (cond (nat_eq id key) (Some i) None)
    by (Some j) e = stays j e (lookup (nat_eq id) numbers) refl (nat_eq id key) refl
    by None e = lookup-append numbers ((key, i) ∷ []) id

pub placed_more : (names : List Name) (i : ℕ) (d : Name) (numbers after : List (ℕ × ℕ)) → i < length names → IsPlaced (take i names) numbers
    → after ≡ with_new numbers (get_or names i d).id i → IsPlaced (take (i + 1) names) after
placed_more names i d numbers after lt h e id =
    let x = get_or names i d in
    let n : length (take i names) ≡ i = length-take-le i names (omega arith) in
    let split : numbered 0 (take (i + 1) names) ≡ numbered 0 (take i names) ++ (x.id, i) ∷ [] =
    ap (numbered 0) (take_more names i d lt) ∙ numbered-append 0 (take i names) (x ∷ []) ∙ ap (λ k. numbered 0 (take i names) ++ (x.id, k) ∷ []) (omega arith) in
    ap (lookup (nat_eq id)) e ∙ new_lookup numbers x.id i id ∙ ap (λ o. or_else o (cond (nat_eq id x.id) (Some i) None)) (h id)
    ∙ sym (lookup-append (numbered 0 (take i names)) ((x.id, i) ∷ []) id) ∙ sym (ap (lookup (nat_eq id)) split)
