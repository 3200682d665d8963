-- The items of each module of a circuit, with the lines that they come from.
use Rattle.std.proofs.Common.{◌≡◌, ◌≢◌, ℕ, zero, suc, ◌+◌, ◌<◌, ◌==◌, Bool, true, false, List, [], ◌∷◌, ◌++◌, map, length, Some, if◌then◌else◌, refl, sym, ap, ap₂, ◌∙◌, subst, append-nil, arith, ⊎_elim}
use Rattle.std.specs.Prelude.{slice_get, Contains}
use Rattle.std.specs.List.{filter}
use Rattle.std.proofs.lemmas.Bool.{eq-eqb, ne_eqb}
use Rattle.std.proofs.lemmas.List.Elements.{Contains-append_cases}
use Rattle.std.proofs.lemmas.Option.{none-some, same_Some}
use Rattle.fir_tree.specs.declared.circuit.Module.{Module}
use Rattle.fir_tree.specs.declared.print.PrintItem.{PrintItem}
use Rattle.item_lines.specs.declared.line.LineModule.{LineModule}
use Rattle.item_lines.specs.Items.{Item, prints_from, module_of, modules_of}
use Rattle.fir_names.proofs.Members.{Contains-none, Contains-one}
use Rattle.item_laws.proofs.Numbers.{Grows, grows_twice}
use Rattle.item_laws.proofs.Below.{all_are, and_left, and_right}
use Rattle.item_laws.proofs.Growing.{modules_grown}
use Rattle.item_laws.proofs.Shown.{module_shown}

-- is it one of module m
abbrev pub is_of : ℕ → PrintItem → Bool
is_of m print = print.«module» == m

filter_append : (f : PrintItem → Bool) (xs ys : List PrintItem) → filter f (xs ++ ys) ≡ filter f xs ++ filter f ys
filter_append f [] ys = refl
filter_append f (x ∷ xs) ys = by (f x) (filter_append f xs ys)
  where
    by : (b : Bool) → filter f (xs ++ ys) ≡ filter f xs ++ filter f ys → (if b then x ∷ filter f (xs ++ ys) else filter f (xs ++ ys)) ≡ (if b then x ∷ filter f xs else filter f xs) ++ filter f ys
    by true h = ap (λ l. x ∷ l) h
    by false h = h

own_kept : (m k : ℕ) (items : List Item) → filter (is_of m) (prints_from m k items) ≡ prints_from m k items
own_kept m k [] = refl
own_kept m k (x ∷ items) =
    let first : PrintItem = record { «module» = m; number = k; stop = x.stop; pieces = x.pieces } in
    ap₂ (λ (b : Bool) (l : List PrintItem). if b then first ∷ l else l) (eq-eqb m m refl) (own_kept m (k + 1) items)

other_left : (m j k : ℕ) (items : List Item) → m ≢ j → filter (is_of j) (prints_from m k items) ≡ []
other_left m j k [] apart = refl
other_left m j k (x ∷ items) apart =
    let first : PrintItem = record { «module» = m; number = k; stop = x.stop; pieces = x.pieces } in
    ap₂ (λ (b : Bool) (l : List PrintItem). if b then first ∷ l else l) (ne_eqb m j apart) (other_left m j (k + 1) items apart)

later_left : (i j : ℕ) (modules : List LineModule) (names : List (List ℕ)) → j < i → filter (is_of j) (modules_of i modules names).0.1 ≡ []
later_left i j [] names less = refl
later_left i j (first ∷ others) names less =
    let made = module_of i first names in
    filter_append (is_of j) made.0.1 (modules_of (i + 1) others made.1).0.1
    ∙ ap₂ (λ xs ys. xs ++ ys) (other_left i j 0 _ (λ e. omega (arith, less, e))) (later_left (i + 1) j others made.1 (omega (arith, less)))

module _ (final : List (List ℕ)) where
  -- module m, which these lines stand for behind other names
  pub record IsFrom (m : ℕ) (holder : Module) (own : List PrintItem) : Type 0 where
    pub lines : LineModule
    pub before : List (List ℕ)
    pub shown : module_shown lines ≡ true
    pub grown : Grows (module_of m lines before).1 final
    pub holder_is : (module_of m lines before).0.0 ≡ holder
    pub own_are : (module_of m lines before).0.1 ≡ own

  module_from : (i m n : ℕ) (modules : List LineModule) (names : List (List ℕ)) (holder : Module) → all_are (map module_shown modules) ≡ true → n ≡ i + m
      → slice_get (modules_of i modules names).0.0 m ≡ Some holder → Grows (modules_of i modules names).1 final → IsFrom n holder (filter (is_of n) (modules_of i modules names).0.1)
  module_from i m n [] names holder t at here g = absurd (none-some holder here)
  module_from i zero n (first ∷ others) names holder t at here g =
      let made = module_of i first names in
      let rest : List PrintItem = (modules_of (i + 1) others made.1).0.1 in
      let same : i ≡ n = omega (arith, at) in
      subst (λ (j : ℕ). IsFrom j holder (filter (is_of j) (made.0.1 ++ rest))) same (record {
        lines = first;
        before = names;
        shown = and_left (module_shown first) (all_are (map module_shown others)) t;
        grown = grows_twice (modules_grown (i + 1) others made.1) g;
        holder_is = same_Some made.0.0 holder here;
        own_are = sym (filter_append (is_of i) made.0.1 rest ∙ ap₂ (λ xs ys. xs ++ ys) (own_kept i 0 _) (later_left (i + 1) i others made.1 (omega arith)) ∙ append-nil made.0.1);
      })
  module_from i (suc m) n (first ∷ others) names holder t at here g =
      let made = module_of i first names in
      let rest : List PrintItem = (modules_of (i + 1) others made.1).0.1 in
      subst (IsFrom n holder) (sym (filter_append (is_of n) made.0.1 rest ∙ ap (λ xs. xs ++ filter (is_of n) rest) (other_left i n 0 _ (λ e. omega (arith, at, e)))))
      (module_from (i + 1) m n others made.1 holder (and_right (module_shown first) (all_are (map module_shown others)) t) (omega (arith, at)) here g)

  -- Each module has its own items.
  pub module_has : (m : ℕ) (modules : List LineModule) (names : List (List ℕ)) (holder : Module) → all_are (map module_shown modules) ≡ true
      → slice_get (modules_of 0 modules names).0.0 m ≡ Some holder → Grows (modules_of 0 modules names).1 final → IsFrom m holder (filter (is_of m) (modules_of 0 modules names).0.1)
  module_has m modules names holder t here g = module_from 0 m m modules names holder t (omega arith) here g

  -- an item of a module
  pub record IsHeld (print : PrintItem) : Type 0 where
    pub m : ℕ
    pub holder : Module
    pub own : List PrintItem
    pub from : IsFrom m holder own
    pub among : Contains own print

  -- Each item is one of some module.
  pub print_held : (i : ℕ) (modules : List LineModule) (names : List (List ℕ)) (print : PrintItem) → all_are (map module_shown modules) ≡ true → Grows (modules_of i modules names).1 final
      → Contains (modules_of i modules names).0.1 print → IsHeld print
  print_held i [] names print t g among = absurd (Contains-none among)
  print_held i (first ∷ others) names print t g among =
      let made = module_of i first names in
      ⊎_elim
      (λ here. record {
        m = i;
        holder = made.0.0;
        own = made.0.1;
        from = record {
          lines = first;
          before = names;
          shown = and_left (module_shown first) (all_are (map module_shown others)) t;
          grown = grows_twice (modules_grown (i + 1) others made.1) g;
          holder_is = refl;
          own_are = refl;
        };
        among = here;
      })
      (λ later. print_held (i + 1) others made.1 print (and_right (module_shown first) (all_are (map module_shown others)) t) g later)
      (Contains-append_cases made.0.1 (modules_of (i + 1) others made.1).0.1 print among)

-- an item among those of lines, with its number
pub record IsPrint (m k : ℕ) (items : List Item) (print : PrintItem) : Type 0 where
  pub at : ℕ
  pub item : Item
  pub here : slice_get items at ≡ Some item
  pub is : record { «module» = m; number = k + at; stop = item.stop; pieces = item.pieces } ≡ print

pub print_at : (m k : ℕ) (items : List Item) (print : PrintItem) → Contains (prints_from m k items) print → IsPrint m k items print
print_at m k [] print among = absurd (Contains-none among)
print_at m k (x ∷ items) print among =
    let first : PrintItem = record { «module» = m; number = k; stop = x.stop; pieces = x.pieces } in
    let zeroth : k + 0 ≡ k = omega arith in
    ⊎_elim
    (λ here. record {
      at = 0;
      item = x;
      here = refl;
      is = ap (λ (n : ℕ). record { «module» = m; number = n; stop = x.stop; pieces = x.pieces }) zeroth ∙ sym (Contains-one here);
    })
    (λ later.
    let rest = print_at m (k + 1) items print later in
    let moved : k + suc rest.at ≡ k + 1 + rest.at = omega arith in
    record {
      at = suc rest.at;
      item = rest.item;
      here = rest.here;
      is = ap (λ (n : ℕ). record { «module» = m; number = n; stop = rest.item.stop; pieces = rest.item.pieces }) moved ∙ rest.is;
    })
    (Contains-append_cases (first ∷ []) (prints_from m (k + 1) items) print among)

pub prints_counted : (m k : ℕ) (items : List Item) → length (prints_from m k items) ≡ length items
prints_counted m k [] = refl
prints_counted m k (x ∷ items) = ap suc (prints_counted m (k + 1) items)
