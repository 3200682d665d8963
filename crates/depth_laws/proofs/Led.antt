-- Where the tree that a list spells goes nowhere too deep, the list goes nowhere too deep.
use Rattle.std.proofs.Common.{ℕ, List, [], ◌∷◌, Some, ◌∙◌}
use Rattle.fir_layout.specs.declared.laid.Laid.{Laid}
use Rattle.fir_layout.specs.declared.laid.Laid.TheVariants as laid
use Rattle.fir_layout.specs.Pieces.{Piece, piece_of, pieces_of}
use Rattle.fir_grammar.specs.Grammar.{Takes, Nothing, Opens, Closes, Symbol, Is, A, Rule, IsCase, Values, Spells, Text, Modules, Ports, Statements, a_text, no_modules, some_modules, last_module, next_module, a_module, a_public_module, no_module_body, a_module_body, next_port, last_port, an_input, an_output, a_type, last_length, next_length, an_unsigned, a_signed, a_clock, a_reset, a_bundle, no_width, a_width, last_field, next_field, plain_field, flipped_field, last_statement, next_statement, a_wire, a_register, a_reset_register, a_memory, an_instance, a_node, a_connect, an_invalidate, a_when, a_skip, a_print, printed, a_stop, without_label, with_label, no_branch, else_when, else_, no_block, a_block, last_memory_line, next_memory_line, a_data_type, a_depth, a_read_latency, a_write_latency, a_read_under_write, under_old, under_new, under_undefined, a_reader, a_writer, a_readwriter, a_reference, a_mux, an_operation, no_more_expressions, one_more_expression, no_more_numbers, one_more_number, a_component, no_suffix, a_field_suffix, an_element_suffix, an_index_suffix, an_unsigned_literal, a_signed_literal, a_wide_unsigned_literal, a_wide_signed_literal, a_plain_integer, a_negative_integer, a_quoted_integer, no_symbol, a_rule, a_piece, a_place, a_name, a_magnitude, a_placed_magnitude, a_quoted, a_format}
use Rattle.fir_grammar.specs.Faults.{Levels, no_levels, past}
use Rattle.depth_laws.proofs.Shallow.{Shallow}
use Rattle.depth_laws.proofs.Classes.{class_of}
use Rattle.depth_laws.proofs.Known.{Known, moves, guarded, Agrees, ahead}
use Rattle.depth_laws.proofs.Steps.{start, past_rule, past_symbols, Wants, Ready, wanted, rested, case_ready, case_past, agrees_weaker, agrees_start}
use Rattle.depth_laws.proofs.Within.{Within, AllWithin}
use Rattle.depth_laws.proofs.Back.{Filled, case_parts}
use Rattle.depth_laws.proofs.Solid.{Follows, Solid}
use Rattle.depth_laws.proofs.Walks.{step, deep_as, start_agrees}

module _ (major : ℕ) (text : List ℕ) where
  -- no mark that closes a block stands behind one that opens it

  not_empty : (l next : Laid) (ls : List Laid) → Takes Opens (piece_of text l) → Takes Closes (piece_of text next) → Follows l (next ∷ ls) → ⊥
  not_empty (laid.Item token) next ls t u f = t
  not_empty (laid.LineEnd at) next ls t u f = t
  not_empty (laid.Close at) next ls t u f = t
  not_empty (laid.End at) next ls t u f = t
  not_empty (laid.Open at) (laid.Item token) ls t u f = u
  not_empty (laid.Open at) (laid.LineEnd to) ls t u f = u
  not_empty (laid.Open at) (laid.Open to) ls t u f = u
  not_empty (laid.Open at) (laid.End to) ls t u f = u
  not_empty (laid.Open at) (laid.Close to) ls t u f = f

  filled_modules : {ls rest : List Laid} {names after : List (List ℕ)} {vs : Values (Is Nothing Opens ∷ A Modules ∷ [])}
      → Spells major text (Is Nothing Opens ∷ A Modules ∷ []) ls names vs rest after → Solid ls → Filled some_modules vs
  filled_modules (a_piece {l = l} t (a_rule last_module (a_piece {l = m} {ls = ls} u inner) more)) s = absurd (not_empty l m ls t u (s.0))
  filled_modules (a_piece t (a_rule next_module inner more)) s = tt

  filled_block : {ls rest : List Laid} {names after : List (List ℕ)} {vs : Values (Is Nothing Opens ∷ A Statements ∷ [])}
      → Spells major text (Is Nothing Opens ∷ A Statements ∷ []) ls names vs rest after → Solid ls → Filled a_block vs
  filled_block (a_piece {l = l} t (a_rule last_statement (a_piece {l = m} {ls = ls} u inner) more)) s = absurd (not_empty l m ls t u (s.0))
  filled_block (a_piece t (a_rule next_statement inner more)) s = tt

  filled_body : {ls rest : List Laid} {names after : List (List ℕ)} {vs : Values (Is Nothing Opens ∷ A Ports ∷ [])}
      → Spells major text (Is Nothing Opens ∷ A Ports ∷ []) ls names vs rest after → Solid ls → Filled a_module_body vs
  filled_body (a_piece t (a_rule next_port inner more)) s = tt
  filled_body (a_piece {l = l} t (a_rule last_port (a_rule last_statement (a_piece {l = m} {ls = ls} u inner) between) more)) s = absurd (not_empty l m ls t u (s.0))
  filled_body (a_piece t (a_rule last_port (a_rule next_statement inner between) more)) s = tt

  spelled_filled : {r : Rule} {body : List Symbol} (case : IsCase r body) {ls rest : List Laid} {names after : List (List ℕ)} {ws : Values body}
      → Spells major text body ls names ws rest after → Solid ls → Filled case ws
  spelled_filled a_text i s = tt
  spelled_filled no_modules i s = tt
  spelled_filled some_modules i s = filled_modules i s
  spelled_filled last_module i s = tt
  spelled_filled next_module i s = tt
  spelled_filled a_module i s = tt
  spelled_filled a_public_module i s = tt
  spelled_filled no_module_body i s = tt
  spelled_filled a_module_body i s = filled_body i s
  spelled_filled next_port i s = tt
  spelled_filled last_port i s = tt
  spelled_filled an_input i s = tt
  spelled_filled an_output i s = tt
  spelled_filled a_type i s = tt
  spelled_filled last_length i s = tt
  spelled_filled next_length i s = tt
  spelled_filled an_unsigned i s = tt
  spelled_filled a_signed i s = tt
  spelled_filled a_clock i s = tt
  spelled_filled a_reset i s = tt
  spelled_filled a_bundle i s = tt
  spelled_filled no_width i s = tt
  spelled_filled a_width i s = tt
  spelled_filled last_field i s = tt
  spelled_filled next_field i s = tt
  spelled_filled plain_field i s = tt
  spelled_filled flipped_field i s = tt
  spelled_filled last_statement i s = tt
  spelled_filled next_statement i s = tt
  spelled_filled a_wire i s = tt
  spelled_filled a_register i s = tt
  spelled_filled a_reset_register i s = tt
  spelled_filled a_memory i s = tt
  spelled_filled an_instance i s = tt
  spelled_filled a_node i s = tt
  spelled_filled a_connect i s = tt
  spelled_filled an_invalidate i s = tt
  spelled_filled a_when i s = tt
  spelled_filled a_skip i s = tt
  spelled_filled a_print i s = tt
  spelled_filled (printed n) i s = tt
  spelled_filled a_stop i s = tt
  spelled_filled without_label i s = tt
  spelled_filled with_label i s = tt
  spelled_filled no_branch i s = tt
  spelled_filled else_when i s = tt
  spelled_filled else_ i s = tt
  spelled_filled no_block i s = tt
  spelled_filled a_block i s = filled_block i s
  spelled_filled last_memory_line i s = tt
  spelled_filled next_memory_line i s = tt
  spelled_filled a_data_type i s = tt
  spelled_filled a_depth i s = tt
  spelled_filled a_read_latency i s = tt
  spelled_filled a_write_latency i s = tt
  spelled_filled a_read_under_write i s = tt
  spelled_filled under_old i s = tt
  spelled_filled under_new i s = tt
  spelled_filled under_undefined i s = tt
  spelled_filled a_reader i s = tt
  spelled_filled a_writer i s = tt
  spelled_filled a_readwriter i s = tt
  spelled_filled a_reference i s = tt
  spelled_filled a_mux i s = tt
  spelled_filled (an_operation prim written) i s = tt
  spelled_filled no_more_expressions i s = tt
  spelled_filled (one_more_expression n) i s = tt
  spelled_filled no_more_numbers i s = tt
  spelled_filled (one_more_number n) i s = tt
  spelled_filled a_component i s = tt
  spelled_filled no_suffix i s = tt
  spelled_filled a_field_suffix i s = tt
  spelled_filled an_element_suffix i s = tt
  spelled_filled an_index_suffix i s = tt
  spelled_filled an_unsigned_literal i s = tt
  spelled_filled a_signed_literal i s = tt
  spelled_filled a_wide_unsigned_literal i s = tt
  spelled_filled a_wide_signed_literal i s = tt
  spelled_filled a_plain_integer i s = tt
  spelled_filled a_negative_integer i s = tt
  spelled_filled a_quoted_integer i s = tt

  record Led (ss : List Symbol) (st : Known) (at : Levels) (ls rest : List Laid) : Type 0 where
    end : Levels
    agrees : Agrees end (past_symbols ss st)
    back : Shallow end (pieces_of text rest) → Shallow at (pieces_of text ls)
    solid : Solid rest

  led : {ss : List Symbol} {ls rest : List Laid} {names after : List (List ℕ)} {vs : Values ss} → Spells major text ss ls names vs rest after
      → (at : Levels) (st : Known) → Agrees at st → Ready ss st → AllWithin ss st vs → Solid ls → Led ss st at ls rest
  led no_symbol at st a q w s = record { end = at; agrees = a; back = λ h. h; solid = s }
  led (a_rule {r = r} {ss = ss} {body = body} {ws = ws} {vs = vs} case inner more) at st a q w s =
      let d = rested st (Wants r st.head st.outer (Ready ss (past_rule r st))) q in
      let x = wanted r st.head st.outer (Ready ss (past_rule r st)) (d.1) in
      let from : Known = start st.blocks st.head st.outer in
      let parts : AllWithin body from ws = case_parts major case st.blocks st.head st.outer ws (x.0) (spelled_filled case inner s) (w.0) in
      let i = led inner at from (agrees_start at st (d.0) a) (case_ready case st.blocks st.head st.outer (x.0)) parts s in
      let e : Agrees i.end (past_rule r st) = agrees_weaker i.end (past_symbols body from) (past_rule r st) (case_past case st.blocks st.head st.outer (x.0)) i.agrees in
      let v = led more i.end (past_rule r st) e (x.1) (w.1) i.solid in
      record { end = v.end; agrees = v.agrees; back = λ h. i.back (v.back h); solid = v.solid }
  led (a_piece {s = s} {ss = ss} {l = l} {vs = vs} t more) at st a q w solid =
      let p : Piece = piece_of text l in
      let g = guarded (class_of s) st (Ready ss (moves (class_of s) st)) q in
      let x = ahead (class_of s) at st (AllWithin ss (moves (class_of s) st) vs) a (g.0) w in
      let v = led more (past at p) (moves (class_of s) st) (step s p at st t (g.0) a) (g.1) (x.1) (solid.1) in
      record { end = v.end; agrees = v.agrees; back = λ h. (deep_as s p at t ∙ x.0, v.back h); solid = v.solid }
  led (a_place {s = s} {ss = ss} {l = l} {vs = vs} t more) at st a q w solid =
      let p : Piece = piece_of text l in
      let g = guarded (class_of s) st (Ready ss (moves (class_of s) st)) q in
      let x = ahead (class_of s) at st (AllWithin ss (moves (class_of s) st) vs) a (g.0) w in
      let v = led more (past at p) (moves (class_of s) st) (step s p at st t (g.0) a) (g.1) (x.1) (solid.1) in
      record { end = v.end; agrees = v.agrees; back = λ h. (deep_as s p at t ∙ x.0, v.back h); solid = v.solid }
  led (a_name {s = s} {ss = ss} {token = token} {vs = vs} t n more) at st a q w solid =
      let p : Piece = piece_of text (laid.Item token) in
      let g = guarded (class_of s) st (Ready ss (moves (class_of s) st)) q in
      let x = ahead (class_of s) at st (AllWithin ss (moves (class_of s) st) vs) a (g.0) w in
      let v = led more (past at p) (moves (class_of s) st) (step s p at st t (g.0) a) (g.1) (x.1) (solid.1) in
      record { end = v.end; agrees = v.agrees; back = λ h. (deep_as s p at t ∙ x.0, v.back h); solid = v.solid }
  led (a_magnitude {s = s} {ss = ss} {token = token} {vs = vs} t n more) at st a q w solid =
      let p : Piece = piece_of text (laid.Item token) in
      let g = guarded (class_of s) st (Ready ss (moves (class_of s) st)) q in
      let x = ahead (class_of s) at st (AllWithin ss (moves (class_of s) st) vs) a (g.0) w in
      let v = led more (past at p) (moves (class_of s) st) (step s p at st t (g.0) a) (g.1) (x.1) (solid.1) in
      record { end = v.end; agrees = v.agrees; back = λ h. (deep_as s p at t ∙ x.0, v.back h); solid = v.solid }
  led (a_placed_magnitude {s = s} {ss = ss} {token = token} {vs = vs} t n more) at st a q w solid =
      let p : Piece = piece_of text (laid.Item token) in
      let g = guarded (class_of s) st (Ready ss (moves (class_of s) st)) q in
      let x = ahead (class_of s) at st (AllWithin ss (moves (class_of s) st) vs) a (g.0) w in
      let v = led more (past at p) (moves (class_of s) st) (step s p at st t (g.0) a) (g.1) (x.1) (solid.1) in
      record { end = v.end; agrees = v.agrees; back = λ h. (deep_as s p at t ∙ x.0, v.back h); solid = v.solid }
  led (a_quoted {s = s} {ss = ss} {token = token} {vs = vs} t n more) at st a q w solid =
      let p : Piece = piece_of text (laid.Item token) in
      let g = guarded (class_of s) st (Ready ss (moves (class_of s) st)) q in
      let x = ahead (class_of s) at st (AllWithin ss (moves (class_of s) st) vs) a (g.0) w in
      let v = led more (past at p) (moves (class_of s) st) (step s p at st t (g.0) a) (g.1) (x.1) (solid.1) in
      record { end = v.end; agrees = v.agrees; back = λ h. (deep_as s p at t ∙ x.0, v.back h); solid = v.solid }
  led (a_format {s = s} {ss = ss} {token = token} {vs = vs} t n more) at st a q w solid =
      let p : Piece = piece_of text (laid.Item token) in
      let g = guarded (class_of s) st (Ready ss (moves (class_of s) st)) q in
      let x = ahead (class_of s) at st (AllWithin ss (moves (class_of s) st) vs) a (g.0) w in
      let v = led more (past at p) (moves (class_of s) st) (step s p at st t (g.0) a) (g.1) (x.1) (solid.1) in
      record { end = v.end; agrees = v.agrees; back = λ h. (deep_as s p at t ∙ x.0, v.back h); solid = v.solid }

  pub all_shallow : {ls : List Laid} {names after : List (List ℕ)} {vs : Values (A Text ∷ [])} → Spells major text (A Text ∷ []) ls names vs [] after → Solid ls
      → Within Text 0 (Some 0) [] vs.0 → Shallow no_levels (pieces_of text ls)
  all_shallow spelled s w = (led spelled no_levels (start 0 (Some 0) []) (start_agrees major text) tt (w, tt) s).back tt
