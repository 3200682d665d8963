-- The text of a dump in pieces.
use Rattle.std.proofs.Common.{◌≡◌, ℕ, ◌+◌, List, [], ◌∷◌, ◌++◌, length, map, Option, Some, None, refl, sym, ap, ap₂, ◌∙◌, arith, false}
use Rattle.std.specs.Prelude.{flat_map}
use Rattle.std.specs.List.{AllZip}
use Rattle.std.proofs.lemmas.List.{length-map, map-append, append-nil}
use Rattle.std.proofs.lemmas.List.Elements.{All-head, All-tail}
use Rattle.std.proofs.lemmas.Grind.{flat_map-append}
use Rattle.bit_words.specs.declared.value.Value.{Value}
use Rattle.ground_net.specs.declared.net.PortLeaf.{PortLeaf}
use Rattle.vcd_write.specs.Changes.{Entry, Time, all_bits, changes, stamped, later, entries, dump}
use Rattle.vcd_write.specs.Texts.{entry_line, widths_of, header_lines, ended, bits_of_row, vcd_text}
use Rattle.row_texts.specs.Tellings.{told_of, rows_text, text_of_told, run_text}
use Rattle.vcd_write.specs.Pieces.{HaveShapesOf, widths_of_row, entries_text, header_text, cycle_text, cycles_text, end_text, dump_telling}
use Rattle.vcd_write.specs.Reading.{IsOfLeaf, AreRows}

entries_append : (widths : List ℕ) (xs ys : List Entry) → entries_text widths (xs ++ ys) ≡ entries_text widths xs ++ entries_text widths ys
entries_append widths xs ys = ap (flat_map ended) (map-append (entry_line widths) xs ys) ∙ flat_map-append ended (map (entry_line widths) xs) (map (entry_line widths) ys)

same_widths : (vars : List PortLeaf) (row : List Value) → AllZip IsOfLeaf vars row → widths_of_row row ≡ widths_of vars
same_widths [] [] h = refl
same_widths [] (v ∷ vs) h = absurd h
same_widths (l ∷ ls) [] h = absurd h
same_widths (l ∷ ls) (v ∷ vs) h = ap₂ (λ w ws. w ∷ ws) h.0.width (same_widths ls vs h.1)

-- rows of the same variables have the same shapes
pub same_shapes : (vars : List PortLeaf) (a b : List Value) → AllZip IsOfLeaf vars a → AllZip IsOfLeaf vars b → HaveShapesOf a b
same_shapes [] [] [] x y = tt
same_shapes [] [] (w ∷ ws) x y = absurd y
same_shapes [] (v ∷ vs) b x y = absurd x
same_shapes (l ∷ ls) [] b x y = absurd x
same_shapes (l ∷ ls) (v ∷ vs) [] x y = absurd y
same_shapes (l ∷ ls) (v ∷ vs) (w ∷ ws) x y = (record { kind = y.0.kind ∙ sym x.0.kind; width = y.0.width ∙ sym x.0.width }, same_shapes ls vs ws x.1 y.1)

module _ (vars : List PortLeaf) where
  later_cycles : (c : ℕ) (before : List Value) (rows : List (List Value)) → AreRows vars rows
      → entries_text (widths_of vars) (later c (bits_of_row before) (map bits_of_row rows)) ≡ cycles_text c (Some before) rows
  later_cycles c before [] h = refl
  later_cycles c before (row ∷ rows) h =
      entries_append (widths_of vars) (stamped c (changes 0 (bits_of_row before) (bits_of_row row))) (later (c + 1) (bits_of_row row) (map bits_of_row rows))
      ∙ ap₂ (λ x y. x ++ y) (ap (λ w. entries_text w (stamped c (changes 0 (bits_of_row before) (bits_of_row row)))) (sym (same_widths vars row (All-head (AllZip IsOfLeaf vars) row rows h))))
      (later_cycles (c + 1) row rows (All-tail (AllZip IsOfLeaf vars) row rows h))

  all_cycles : (rows : List (List Value)) → AreRows vars rows → entries_text (widths_of vars) (entries (map bits_of_row rows)) ≡ cycles_text 0 None rows
  all_cycles [] h = refl
  all_cycles (row ∷ rows) h =
      entries_append (widths_of vars) (Time 0 ∷ all_bits 0 (bits_of_row row)) (later 1 (bits_of_row row) (map bits_of_row rows))
      ∙ ap₂ (λ x y. x ++ y) (ap (λ w. entries_text w (Time 0 ∷ all_bits 0 (bits_of_row row))) (sym (same_widths vars row (All-head (AllZip IsOfLeaf vars) row rows h))))
      (later_cycles 1 row rows (All-tail (AllZip IsOfLeaf vars) row rows h))

  pub text_parts : (top : List ℕ) (rows : List (List Value)) → AreRows vars rows → vcd_text top vars rows ≡ header_text top vars ++ (cycles_text 0 None rows ++ end_text (length rows))
  text_parts top rows h =
      flat_map-append ended (header_lines top vars) (map (entry_line (widths_of vars)) (dump (map bits_of_row rows)))
      ∙ ap (λ l. header_text top vars ++ l) (entries_append (widths_of vars) (entries (map bits_of_row rows)) (Time (length (map bits_of_row rows)) ∷ [])
      ∙ ap₂ (λ x y. x ++ y) (all_cycles rows h) (append-nil (end_text (length (map bits_of_row rows))) ∙ ap end_text (length-map rows bits_of_row)))

all_told : (rows : List (List Value)) → told_of (λ row. false) rows ≡ rows
all_told [] = refl
all_told (row ∷ rows) = ap (λ l. row ∷ l) (all_told rows)

rows_are : (top : List ℕ) (vars : List PortLeaf) (c : ℕ) (before : Option (List Value)) (rows : List (List Value)) → rows_text (dump_telling top vars) c before rows ≡ cycles_text c before rows
rows_are top vars c before [] = refl
rows_are top vars c before (row ∷ rows) = ap (λ l. cycle_text c before row ++ l) (rows_are top vars (c + 1) (Some row) rows)

-- the text of rows is the dump's
pub told_text : (top : List ℕ) (vars : List PortLeaf) (rows : List (List Value)) → AreRows vars rows → run_text (dump_telling top vars) 0 rows ≡ vcd_text top vars rows
told_text top vars rows h =
    let start : 0 + length rows ≡ length rows = omega arith in
    ap (text_of_told (dump_telling top vars) 0) (all_told rows)
    ∙ (ap₂ (λ l n. header_text top vars ++ (l ++ end_text n)) (rows_are top vars 0 None rows) start ∙ sym (text_parts vars top rows h))
