-- The items of each module.
use Rattle.std.proofs.Common.{◌≡◌, ◌≢◌, ℕ, zero, suc, ◌+◌, ◌<◌, ◌≤◌, ◌==◌, Bool, true, false, List, [], ◌∷◌, ◌++◌, take, length, get_or, slice_set, Option, Some, None, if◌then◌else◌, refl, sym, ap, ap₂, ◌∙◌, subst, arith, append-nil, ⊎_elim, get_or-set_same, get_or-set_other}
use Rattle.std.specs.Prelude.{slice_get}
use Rattle.std.specs.List.{AllZip, filter}
use Rattle.std.proofs.lemmas.Bool.{cases_eq, eq-eqb, ne_eqb}
use Rattle.std.proofs.lemmas.Option.{get_or_from_slice_get, slice_get_within}
use Rattle.fir_tree.specs.declared.print.PrintItem.{PrintItem}
use Rattle.fir_tree.specs.declared.scope.Fitted.{Fitted}
use Rattle.fir_meaning.specs.Components.{TypedModule, modules_of, design_of}
use Rattle.place_text.specs.First.{HasNone}
use Rattle.fir_names.specs.Faults.{IsFault}
use Rattle.circuit_laws.proofs.Reached.{one_number}
use Rattle.print_stop.specs.RunItems.{is_named, prints_of}
use Rattle.found_items.specs.Tables.{own_numbers, AreOwn}
use Rattle.found_items.proofs.Lists.{take_at, get_behind}

pub own_more : (k i : ℕ) (xs : List PrintItem) (p : PrintItem) → own_numbers k i (xs ++ p ∷ []) ≡ own_numbers k i xs ++ (if p.«module» == k then (i + length xs) ∷ [] else [])
own_more k i [] p = ap (λ n. if p.«module» == k then n ∷ [] else []) (omega arith)
own_more k i (x ∷ xs) p = by (x.«module» == k) (own_more k (i + 1) xs p ∙ ap (λ n. own_numbers k (i + 1) xs ++ (if p.«module» == k then n ∷ [] else [])) (omega arith))
  where
    by : (b : Bool) → own_numbers k (i + 1) (xs ++ p ∷ []) ≡ own_numbers k (i + 1) xs ++ (if p.«module» == k then (i + length (x ∷ xs)) ∷ [] else [])
        → (if b then i ∷ own_numbers k (i + 1) (xs ++ p ∷ []) else own_numbers k (i + 1) (xs ++ p ∷ []))
        ≡ (if b then i ∷ own_numbers k (i + 1) xs else own_numbers k (i + 1) xs) ++ (if p.«module» == k then (i + length (x ∷ xs)) ∷ [] else [])
    by true h = ap (λ l. i ∷ l) h
    by false h = h

-- those of the first prints
abbrev pub OwnUpTo : ℕ → List PrintItem → ℕ → List (List ℕ) → Type 0
OwnUpTo count prints at own = (length own ≡ count) × ((k : ℕ) → k < count → get_or own k [] ≡ own_numbers k 0 (take at prints))

pub own_put : (count : ℕ) (prints : List PrintItem) (at : ℕ) (p : PrintItem) (own : List (List ℕ)) → slice_get prints at ≡ Some p → length (take at prints) ≡ at → OwnUpTo count prints at own → p.«module» < count
    → (k : ℕ) → k < count → get_or (slice_set own p.«module» (get_or own p.«module» [] ++ at ∷ [])) k [] ≡ own_numbers k 0 (take (at + 1) prints)
own_put count prints at p own there long h inside k less =
    let more : own_numbers k 0 (take (at + 1) prints) ≡ own_numbers k 0 (take at prints) ++ (if p.«module» == k then at ∷ [] else []) =
    ap (own_numbers k 0) (take_at prints at p there) ∙ own_more k 0 (take at prints) p ∙ ap (λ n. own_numbers k 0 (take at prints) ++ (if p.«module» == k then n ∷ [] else [])) (omega (arith, long)) in
    let counted = h.0 in
    ⊎_elim
    (λ e. let test : (p.«module» == k) ≡ true = eq-eqb p.«module» k (sym e) in
    ap (λ j. get_or (slice_set own p.«module» (get_or own p.«module» [] ++ at ∷ [])) j []) e
    ∙ get_or-set_same own p.«module» (get_or own p.«module» [] ++ at ∷ []) [] (omega (arith, inside, counted))
    ∙ ap (λ l. l ++ at ∷ []) (ap (λ j. get_or own j []) (sym e) ∙ h.1 k less)
    ∙ sym (more ∙ ap (λ b. own_numbers k 0 (take at prints) ++ (if b then at ∷ [] else [])) test))
    (λ n. let test : (p.«module» == k) ≡ false = ne_eqb p.«module» k (λ e. n (sym e)) in
    get_or-set_other own p.«module» k (get_or own p.«module» [] ++ at ∷ []) [] n ∙ h.1 k less
    ∙ sym (more ∙ ap (λ b. own_numbers k 0 (take at prints) ++ (if b then at ∷ [] else [])) test ∙ append-nil (own_numbers k 0 (take at prints))))
    (cases_eq k p.«module»)

pub own_past : (count : ℕ) (prints : List PrintItem) (at : ℕ) (p : PrintItem) (own : List (List ℕ)) → slice_get prints at ≡ Some p → OwnUpTo count prints at own → count ≤ p.«module»
    → (k : ℕ) → k < count → get_or own k [] ≡ own_numbers k 0 (take (at + 1) prints)
own_past count prints at p own there h past k less =
    let test : (p.«module» == k) ≡ false = ne_eqb p.«module» k (λ e. omega (arith, past, less, e)) in
    h.1 k less ∙ sym (ap (own_numbers k 0) (take_at prints at p there) ∙ own_more k 0 (take at prints) p
    ∙ ap (λ b. own_numbers k 0 (take at prints) ++ (if b then (0 + length (take at prints)) ∷ [] else [])) test ∙ append-nil (own_numbers k 0 (take at prints)))

pub own_all : (count : ℕ) (prints : List PrintItem) (own : List (List ℕ)) → take (length prints) prints ≡ prints → OwnUpTo count prints (length prints) own → AreOwn count prints own
own_all count prints own all h = record {
  counted = h.0;
  each = λ k numbers e. let within = slice_get_within own k numbers e in let counted = h.0 in
      sym (get_or_from_slice_get own k numbers [] e) ∙ h.1 k (omega (arith, within, counted)) ∙ ap (own_numbers k 0) all;
}

-- the items of these numbers

own_prints : (prints front behind : List PrintItem) (k i : ℕ) → prints ≡ front ++ behind → i ≡ length front
    → AllZip (λ number print. slice_get prints number ≡ Some print) (own_numbers k i behind) (filter (λ print. print.«module» == k) behind)
own_prints prints front [] k i e n = tt
own_prints prints front (p ∷ behind) k i e n = by (p.«module» == k) (own_prints prints (front ++ p ∷ []) behind k (i + 1) (e ∙ moved front) (longer front i n))
  where
    moved : (xs : List PrintItem) → xs ++ p ∷ behind ≡ (xs ++ p ∷ []) ++ behind
    moved [] = refl
    moved (x ∷ xs) = ap (λ l. x ∷ l) (moved xs)

    longer : (xs : List PrintItem) (j : ℕ) → j ≡ length xs → j + 1 ≡ length (xs ++ p ∷ [])
    longer [] j h = omega (arith, h)
    longer (x ∷ xs) zero h = absurd (omega (arith, h))
    longer (x ∷ xs) (suc j) h = let more = longer xs j (omega (arith, h)) in omega (arith, more)

    by : (b : Bool) → AllZip (λ number print. slice_get prints number ≡ Some print) (own_numbers k (i + 1) behind) (filter (λ print. print.«module» == k) behind)
        → AllZip (λ number print. slice_get prints number ≡ Some print) (if b then i ∷ own_numbers k (i + 1) behind else own_numbers k (i + 1) behind)
        (if b then p ∷ filter (λ print. print.«module» == k) behind else filter (λ print. print.«module» == k) behind)
    by true h = (ap (λ l. slice_get l i) e ∙ get_behind front i p behind n, h)
    by false h = h

same_filter : (f g : PrintItem → Bool) (xs : List PrintItem) → ((x : PrintItem) → f x ≡ g x) → filter f xs ≡ filter g xs
same_filter f g [] h = refl
same_filter f g (x ∷ xs) h = ap₂ (λ (b : Bool) (l : List PrintItem). if b then x ∷ l else l) (h x) (same_filter f g xs h)

module _ (fitted : Fitted) (none : HasNone (IsFault fitted.checked.resolved)) (k : ℕ) (m : TypedModule) (here : slice_get (modules_of fitted) k ≡ Some m) where
  named_at : (j : ℕ) → is_named m.name (slice_get (modules_of fitted) j) ≡ (j == k)
  named_at j = ⊎_elim
      (λ e. ap (is_named m.name) (ap (slice_get (modules_of fitted)) e ∙ here) ∙ eq-eqb m.name m.name refl ∙ sym (eq-eqb j k e))
      (λ n. by n (slice_get (modules_of fitted) j) refl ∙ sym (ne_eqb j k n))
      (cases_eq j k)
    where
      by : j ≢ k → (o : Option TypedModule) → slice_get (modules_of fitted) j ≡ o → is_named m.name o ≡ false
      by n None e = refl
      by n (Some x) e = ne_eqb x.name m.name (λ same. n (one_number fitted none j k x m e here same))

  pub own_are : (prints : List PrintItem) → AllZip (λ number print. slice_get prints number ≡ Some print) (own_numbers k 0 prints) (prints_of (design_of fitted) prints m)
  own_are prints = subst (AllZip (λ number print. slice_get prints number ≡ Some print) (own_numbers k 0 prints)) (sym (same_filter _ _ prints (λ print. named_at print.«module»))) (own_prints prints [] prints k 0 refl refl)
