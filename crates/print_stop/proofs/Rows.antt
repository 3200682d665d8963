-- The text of the rows of a run, up to the first one in which a `stop` is enabled, is the log.
use Rattle.std.proofs.Common.{◌≡◌, ℕ, ◌<◌, ◌+◌, ◌-◌, ◌==◌, Bool, true, false, List, [], ◌∷◌, ◌++◌, map, length, zip, Option, Some, None, option_and_then, is_some, ℤ, refl, sym, ap, ap₂, ◌∙◌, subst, arith, append_assoc, append-nil, ne_eqb, if◌then◌else◌}
use Rattle.std.specs.Prelude.{All}
use Rattle.std.specs.List.{AllZip}
use Rattle.std.proofs.lemmas.List.Elements.{All-head, All-tail}
use Rattle.bit_words.specs.declared.value.Value.{Value}
use Rattle.bit_words.specs.Values.{integer_of}
use Rattle.fir_tree.specs.declared.print.PrintItem.{PrintItem}
use Rattle.fir_meaning.specs.Components.{Design, FlatLeaf}
use Rattle.fir_meaning.specs.Values.{Valuation}
use Rattle.fir_meaning.specs.States.{State, Inputs, WatchedTrace, ended, cycle, row_of, next}
use Rattle.row_texts.specs.Tellings.{Telling, last_from, told_of, rows_text, run_text}
use Rattle.print_stop.specs.Printed.{stopped_line, ended_line}
use Rattle.print_stop.specs.Logging.{items_text, items_code, feed, last_line, log_telling}
use Rattle.print_stop.specs.Printing.{PathItem, InCycle, Logs, ends, stops, goes_on, with_feed}
use Rattle.print_stop.specs.Sound.{IsSound, IsOfLeaf, Shows, IsOfPrint, all_leaves}
use Rattle.print_stop.proofs.Telling.{in_cycle}

-- a row of values with the integers of a valuation
shown_row : (design : Design) (rho : Valuation) (leaves : List FlatLeaf) (row : List Value) → AllZip (IsOfLeaf design) leaves row → map integer_of row ≡ row_of leaves rho → AllZip (Shows design rho) leaves row
shown_row design rho [] [] of is = tt
shown_row design rho [] (v ∷ row) of is = absurd of
shown_row design rho (x ∷ leaves) [] of is = absurd of
shown_row design rho (x ∷ leaves) (v ∷ row) of is = (record { shape = of.0; integer = ap (first (integer_of v)) is }, shown_row design rho leaves row of.1 (ap rest is))
  where
    first : ℤ → List ℤ → ℤ
    first other [] = other
    first other (n ∷ ns) = n

    rest : List ℤ → List ℤ
    rest [] = []
    rest (n ∷ ns) = ns

module _ (design : Design) (items : List PathItem) (nodes : List (List ℕ)) (prints : List PrintItem) (sound : AllZip (IsSound design) items nodes) (of : AllZip IsOfPrint items prints) where
  abbrev telling : Telling
  telling = log_telling prints

  abbrev watch : List FlatLeaf
  watch = all_leaves (zip items nodes)

  abbrev told : List (List Value) → List (List Value)
  told rows = told_of telling.ends rows

  -- the lines of the told rows, and the line at the end
  abbrev lines : ℕ → Option (List Value) → List (List Value) → List ℕ
  lines first before rows = rows_text telling first before (told rows)

  abbrev line : ℕ → Option (List Value) → List (List Value) → List ℕ
  line first before rows = last_line (first + length (told rows)) (option_and_then (items_code prints) (last_from before (told rows)))

  module _ (first : ℕ) (before : Option (List Value)) (row : List Value) (rows : List (List Value)) where
    -- the rows behind one with this code
    abbrev behind : Option ℕ → List (List Value)
    behind o = if is_some o then [] else told rows

    stopped_lines : (code : ℕ) → items_code prints row ≡ Some code → lines first before (row ∷ rows) ≡ items_text prints row
    stopped_lines code e = ap (λ (o : Option ℕ). items_text prints row ++ rows_text telling (first + 1) (Some row) (behind o)) e ∙ append-nil (items_text prints row)

    stopped_line_is : (code : ℕ) → items_code prints row ≡ Some code → line first before (row ∷ rows) ≡ stopped_line first code
    stopped_line_is code e =
        ap (λ (o : Option ℕ). last_line (first + length (row ∷ behind o)) (option_and_then (items_code prints) (last_from (Some row) (behind o)))) e
        ∙ ap (last_line (first + length {A = List Value} (row ∷ []))) e
        ∙ ap (λ (n : ℕ). stopped_line n code) (let same : first + length {A = List Value} (row ∷ []) - 1 ≡ first = omega arith in same)

    further_lines : items_code prints row ≡ None → lines first before (row ∷ rows) ≡ items_text prints row ++ lines (first + 1) (Some row) rows
    further_lines e = ap (λ (o : Option ℕ). items_text prints row ++ rows_text telling (first + 1) (Some row) (behind o)) e

    further_line : items_code prints row ≡ None → line first before (row ∷ rows) ≡ line (first + 1) (Some row) rows
    further_line e =
        ap (λ (o : Option ℕ). last_line (first + length (row ∷ behind o)) (option_and_then (items_code prints) (last_from (Some row) (behind o)))) e
        ∙ ap (λ (n : ℕ). last_line n (option_and_then (items_code prints) (last_from (Some row) (told rows)))) (let same : first + length (row ∷ told rows) ≡ first + 1 + length (told rows) = omega arith in same)

  pub told_log : (first : ℕ) (before : Option (List Value)) (s : State) (given : List Inputs) (rows : List (List Value)) (trace : List (List ℤ)) → option_and_then (items_code prints) before ≡ None
      → All (AllZip (IsOfLeaf design) watch) rows → map (map integer_of) rows ≡ trace → WatchedTrace design watch s given trace
      → Logs design items first s given (lines first before rows) (line first before rows)
  told_log first before s _ [] _ none of_leaves is ended =
      subst (λ (l : List ℕ). Logs design items first s [] [] l) (sym (ap₂ last_line (let e : first + 0 ≡ first = omega arith in e) none)) ends
  told_log first before s _ (row ∷ rows) _ none of_leaves is ended = cc
  told_log first before s _ [] _ none of_leaves is (cycle rho settled later) = cc
  told_log first before s _ (row ∷ rows) _ none of_leaves is (cycle {given} {later = more} {rows = trace} rho settled later) =
      by (items_code prints row) refl (λ (e : items_code prints row ≡ None). told_log (first + 1) (Some row) (next design s rho) more rows trace e (All-tail (AllZip (IsOfLeaf design) watch) row rows of_leaves) (ap rest_of is) later)
    where
      head_of : List (List ℤ) → List ℤ
      head_of [] = []
      head_of (x ∷ xs) = x

      rest_of : List (List ℤ) → List (List ℤ)
      rest_of [] = []
      rest_of (x ∷ xs) = xs

      within : InCycle design rho items (items_text prints row) (items_code prints row)
      within = in_cycle settled items nodes prints row sound of (shown_row design rho watch row (All-head (AllZip (IsOfLeaf design) watch) row rows of_leaves) (ap head_of is))

      by : (o : Option ℕ) → items_code prints row ≡ o → (items_code prints row ≡ None → Logs design items (first + 1) (next design s rho) more (lines (first + 1) (Some row) rows) (line (first + 1) (Some row) rows))
          → Logs design items first s (given ∷ more) (lines first before (row ∷ rows)) (line first before (row ∷ rows))
      by (Some code) e onward =
          let here : InCycle design rho items (items_text prints row) (Some code) = subst (λ (o : Option ℕ). InCycle design rho items (items_text prints row) o) e within in
          subst (λ (t : List ℕ). Logs design items first s (given ∷ more) t (line first before (row ∷ rows))) (sym (stopped_lines first before row rows code e))
          (subst (λ (l : List ℕ). Logs design items first s (given ∷ more) (items_text prints row) l) (sym (stopped_line_is first before row rows code e)) (stops rho settled here))
      by None e onward =
          let here : InCycle design rho items (items_text prints row) None = subst (λ (o : Option ℕ). InCycle design rho items (items_text prints row) o) e within in
          subst (λ (t : List ℕ). Logs design items first s (given ∷ more) t (line first before (row ∷ rows))) (sym (further_lines first before row rows e))
          (subst (λ (l : List ℕ). Logs design items first s (given ∷ more) (items_text prints row ++ lines (first + 1) (Some row) rows) l) (sym (further_line first before row rows e))
          (goes_on rho settled here (onward e)))

-- a line feed behind bytes that don't end in one

feed_behind : (b : ℕ) (bs : List ℕ) (t : Bool) → (if t then b ∷ bs else (b ∷ bs) ++ 10 ∷ []) ≡ b ∷ (if t then bs else bs ++ 10 ∷ [])
feed_behind b bs true = refl
feed_behind b bs false = refl

feed_last : (b : ℕ) (t : Bool) → (if t then b ∷ [] else (b ∷ []) ++ 10 ∷ []) ≡ (b ∷ []) ++ (if t then [] else 10 ∷ [])
feed_last b true = refl
feed_last b false = refl

some_bytes : (b : ℕ) (bs inner : List ℕ) → (if length (b ∷ bs) == 0 then [] else inner) ≡ inner
some_bytes b bs inner = ap (λ (t : Bool). if t then [] else inner) (ne_eqb (length (b ∷ bs)) 0 (λ e. absurd (omega (arith, e))))

pub feed_is : (bytes : List ℕ) → with_feed bytes ≡ bytes ++ feed (last_from None bytes)
feed_is [] = refl
feed_is (b ∷ []) = feed_last b (b == 10)
feed_is (b ∷ c ∷ bs) = some_bytes b (c ∷ bs) _ ∙ feed_behind b (c ∷ bs) _ ∙ ap (λ (xs : List ℕ). b ∷ xs) (sym (some_bytes c bs _) ∙ feed_is (c ∷ bs))

pub whole_text : (prints : List PrintItem) (first : ℕ) (rows : List (List Value))
    → run_text (log_telling prints) first rows ≡ with_feed (rows_text (log_telling prints) first None (told_of (log_telling prints).ends rows))
    ++ last_line (first + length (told_of (log_telling prints).ends rows)) (option_and_then (items_code prints) (last_from None (told_of (log_telling prints).ends rows)))
whole_text prints first rows =
    let all = rows_text (log_telling prints) first None (told_of (log_telling prints).ends rows) in
    sym (append_assoc all (feed (last_from None all)) _) ∙ ap (λ (xs : List ℕ). xs ++ last_line (first + length (told_of (log_telling prints).ends rows)) (option_and_then (items_code prints) (last_from None (told_of (log_telling prints).ends rows)))) (sym (feed_is all))
