-- A list that spells a tree: how far down it goes, and how far down its tree goes.
use Rattle.std.proofs.Common.{◌≡◌, ℕ, false, List, [], ◌∷◌, Some, refl, sym, ap, ◌∙◌, subst}
use Rattle.std.specs.Prelude.{⊤}
use Rattle.fir_layout.specs.declared.laid.Laid.{Laid}
use Rattle.fir_layout.specs.declared.laid.Laid.TheVariants as laid
use Rattle.fir_layout.specs.Pieces.{Piece, piece_of, pieces_of}
use Rattle.fir_grammar.specs.Grammar.{Terminal, Takes, Symbol, A, Rule, IsCase, Values, tree, Spells, Text, Lengths, Base_type, a_text, no_modules, some_modules, last_module, next_module, a_module, a_public_module, no_module_body, a_module_body, next_port, last_port, an_input, an_output, a_type, last_length, next_length, an_unsigned, a_signed, a_clock, a_reset, a_bundle, no_width, a_width, last_field, next_field, plain_field, flipped_field, last_statement, next_statement, a_wire, a_register, a_reset_register, a_memory, an_instance, a_node, a_connect, an_invalidate, a_when, a_skip, a_print, printed, a_stop, without_label, with_label, no_branch, else_when, else_, no_block, a_block, last_memory_line, next_memory_line, a_data_type, a_depth, a_read_latency, a_write_latency, a_read_under_write, under_old, under_new, under_undefined, a_reader, a_writer, a_readwriter, a_reference, a_mux, an_operation, no_more_expressions, one_more_expression, no_more_numbers, one_more_number, a_component, no_suffix, a_field_suffix, an_element_suffix, an_index_suffix, an_unsigned_literal, a_signed_literal, a_wide_unsigned_literal, a_wide_signed_literal, a_plain_integer, a_negative_integer, a_quoted_integer, no_symbol, a_rule, a_piece, a_place, a_name, a_magnitude, a_placed_magnitude, a_quoted, a_format}
use Rattle.fir_grammar.specs.Faults.{Levels, no_levels, past, is_deep}
use Rattle.depth_laws.specs.Suffixes.{type_lengths}
use Rattle.depth_laws.proofs.Shallow.{Shallow}
use Rattle.depth_laws.proofs.Layers.{lengths-unsigned, lengths-signed, lengths-clock, lengths-reset, lengths-bundle}
use Rattle.depth_laws.proofs.Classes.{class_of, past_class, deep_class, past_by_class, deep_by_class, same_class}
use Rattle.depth_laws.proofs.Known.{Known, moves, Guard, guarded, Agrees, agrees_past, Behind, behind}
use Rattle.depth_laws.proofs.Steps.{start, past_rule, past_symbols, Wants, Ready, wanted, rested, case_ready, case_past, agrees_weaker, agrees_start}
use Rattle.depth_laws.proofs.Within.{Within, AllWithin}
use Rattle.depth_laws.proofs.Forth.{Plain, case_within}

-- one piece

pub step : (s : Terminal) (p : Piece) (at : Levels) (st : Known) → Takes s p → Guard (class_of s) st ⊤ → Agrees at st → Agrees (past at p) (moves (class_of s) st)
step s p at st t g a =
    subst (λ l. Agrees l (moves (class_of s) st)) (sym (past_by_class p at ∙ ap (λ c. past_class c at) (same_class s p t))) (agrees_past (class_of s) at st g a)

pub deep_as : (s : Terminal) (p : Piece) (at : Levels) → Takes s p → is_deep at p ≡ deep_class at (class_of s)
deep_as s p at t = deep_by_class p at ∙ ap (deep_class at) (same_class s p t)

passed : (s : Terminal) (p : Piece) (at : Levels) (st : Known) (X : Type 0) → Takes s p → Agrees at st → is_deep at p ≡ false → X → Behind (class_of s) st X
passed s p at st X t a e x = behind (class_of s) at st X a (sym (deep_as s p at t) ∙ e) x

-- what is spelled for a type begins with a base type

base_plain : {body : List Symbol} (major : ℕ) (case : IsCase Base_type body) (ws : Values body) → (type_lengths (tree major case ws)).0 ≡ 0
base_plain major an_unsigned (at, (width, _)) = ap (λ p. p.0) (lengths-unsigned at width)
base_plain major a_signed (at, (width, _)) = ap (λ p. p.0) (lengths-signed at width)
base_plain major a_clock (at, _) = ap (λ p. p.0) (lengths-clock at)
base_plain major a_reset (at, _) = ap (λ p. p.0) (lengths-reset at)
base_plain major a_bundle (at, (fields, _)) = ap (λ p. p.0) (lengths-bundle at fields)

module _ (major : ℕ) (text : List ℕ) where
  first_plain : {ls rest : List Laid} {names after : List (List ℕ)} {vs : Values (A Base_type ∷ A Lengths ∷ [])}
      → Spells major text (A Base_type ∷ A Lengths ∷ []) ls names vs rest after → (type_lengths vs.0).0 ≡ 0
  first_plain (a_rule {ws = ws} case inner more) = base_plain major case ws

  spelled_plain : {r : Rule} {body : List Symbol} (case : IsCase r body) {ls rest : List Laid} {names after : List (List ℕ)} {ws : Values body}
      → Spells major text body ls names ws rest after → Plain case ws
  spelled_plain a_text s = tt
  spelled_plain no_modules s = tt
  spelled_plain some_modules s = tt
  spelled_plain last_module s = tt
  spelled_plain next_module s = tt
  spelled_plain a_module s = tt
  spelled_plain a_public_module s = tt
  spelled_plain no_module_body s = tt
  spelled_plain a_module_body s = tt
  spelled_plain next_port s = tt
  spelled_plain last_port s = tt
  spelled_plain an_input s = tt
  spelled_plain an_output s = tt
  spelled_plain a_type s = first_plain s
  spelled_plain last_length s = tt
  spelled_plain next_length s = tt
  spelled_plain an_unsigned s = tt
  spelled_plain a_signed s = tt
  spelled_plain a_clock s = tt
  spelled_plain a_reset s = tt
  spelled_plain a_bundle s = tt
  spelled_plain no_width s = tt
  spelled_plain a_width s = tt
  spelled_plain last_field s = tt
  spelled_plain next_field s = tt
  spelled_plain plain_field s = tt
  spelled_plain flipped_field s = tt
  spelled_plain last_statement s = tt
  spelled_plain next_statement s = tt
  spelled_plain a_wire s = tt
  spelled_plain a_register s = tt
  spelled_plain a_reset_register s = tt
  spelled_plain a_memory s = tt
  spelled_plain an_instance s = tt
  spelled_plain a_node s = tt
  spelled_plain a_connect s = tt
  spelled_plain an_invalidate s = tt
  spelled_plain a_when s = tt
  spelled_plain a_skip s = tt
  spelled_plain a_print s = tt
  spelled_plain (printed n) s = tt
  spelled_plain a_stop s = tt
  spelled_plain without_label s = tt
  spelled_plain with_label s = tt
  spelled_plain no_branch s = tt
  spelled_plain else_when s = tt
  spelled_plain else_ s = tt
  spelled_plain no_block s = tt
  spelled_plain a_block s = tt
  spelled_plain last_memory_line s = tt
  spelled_plain next_memory_line s = tt
  spelled_plain a_data_type s = tt
  spelled_plain a_depth s = tt
  spelled_plain a_read_latency s = tt
  spelled_plain a_write_latency s = tt
  spelled_plain a_read_under_write s = tt
  spelled_plain under_old s = tt
  spelled_plain under_new s = tt
  spelled_plain under_undefined s = tt
  spelled_plain a_reader s = tt
  spelled_plain a_writer s = tt
  spelled_plain a_readwriter s = tt
  spelled_plain a_reference s = tt
  spelled_plain a_mux s = tt
  spelled_plain (an_operation prim written) s = tt
  spelled_plain no_more_expressions s = tt
  spelled_plain (one_more_expression n) s = tt
  spelled_plain no_more_numbers s = tt
  spelled_plain (one_more_number n) s = tt
  spelled_plain a_component s = tt
  spelled_plain no_suffix s = tt
  spelled_plain a_field_suffix s = tt
  spelled_plain an_element_suffix s = tt
  spelled_plain an_index_suffix s = tt
  spelled_plain an_unsigned_literal s = tt
  spelled_plain a_signed_literal s = tt
  spelled_plain a_wide_unsigned_literal s = tt
  spelled_plain a_wide_signed_literal s = tt
  spelled_plain a_plain_integer s = tt
  spelled_plain a_negative_integer s = tt
  spelled_plain a_quoted_integer s = tt

  record Walked (ss : List Symbol) (vs : Values ss) (st : Known) (rest : List Laid) : Type 0 where
    within : AllWithin ss st vs
    end : Levels
    agrees : Agrees end (past_symbols ss st)
    shallow : Shallow end (pieces_of text rest)

  walked : {ss : List Symbol} {ls rest : List Laid} {names after : List (List ℕ)} {vs : Values ss} → Spells major text ss ls names vs rest after
      → (at : Levels) (st : Known) → Agrees at st → Ready ss st → Shallow at (pieces_of text ls) → Walked ss vs st rest
  walked no_symbol at st a q h = record { within = tt; end = at; agrees = a; shallow = h }
  walked (a_rule {r = r} {ss = ss} {body = body} {ws = ws} {vs = vs} case inner more) at st a q h =
      let d = rested st (Wants r st.head st.outer (Ready ss (past_rule r st))) q in
      let w = wanted r st.head st.outer (Ready ss (past_rule r st)) (d.1) in
      let from : Known = start st.blocks st.head st.outer in
      let i = walked inner at from (agrees_start at st (d.0) a) (case_ready case st.blocks st.head st.outer (w.0)) h in
      let e : Agrees i.end (past_rule r st) = agrees_weaker i.end (past_symbols body from) (past_rule r st) (case_past case st.blocks st.head st.outer (w.0)) i.agrees in
      let v = walked more i.end (past_rule r st) e (w.1) i.shallow in
      record {
        within = (case_within major case st.blocks st.head st.outer ws (w.0) (spelled_plain case inner) i.within, v.within);
        end = v.end;
        agrees = v.agrees;
        shallow = v.shallow;
      }
  walked (a_piece {s = s} {ss = ss} {l = l} {vs = vs} t more) at st a q h =
      let p : Piece = piece_of text l in
      let g = guarded (class_of s) st (Ready ss (moves (class_of s) st)) q in
      let w = walked more (past at p) (moves (class_of s) st) (step s p at st t (g.0) a) (g.1) (h.1) in
      record { within = passed s p at st (AllWithin ss (moves (class_of s) st) vs) t a (h.0) w.within; end = w.end; agrees = w.agrees; shallow = w.shallow }
  walked (a_place {s = s} {ss = ss} {l = l} {vs = vs} t more) at st a q h =
      let p : Piece = piece_of text l in
      let g = guarded (class_of s) st (Ready ss (moves (class_of s) st)) q in
      let w = walked more (past at p) (moves (class_of s) st) (step s p at st t (g.0) a) (g.1) (h.1) in
      record { within = passed s p at st (AllWithin ss (moves (class_of s) st) vs) t a (h.0) w.within; end = w.end; agrees = w.agrees; shallow = w.shallow }
  walked (a_name {s = s} {ss = ss} {token = token} {vs = vs} t n more) at st a q h =
      let p : Piece = piece_of text (laid.Item token) in
      let g = guarded (class_of s) st (Ready ss (moves (class_of s) st)) q in
      let w = walked more (past at p) (moves (class_of s) st) (step s p at st t (g.0) a) (g.1) (h.1) in
      record { within = passed s p at st (AllWithin ss (moves (class_of s) st) vs) t a (h.0) w.within; end = w.end; agrees = w.agrees; shallow = w.shallow }
  walked (a_magnitude {s = s} {ss = ss} {token = token} {vs = vs} t n more) at st a q h =
      let p : Piece = piece_of text (laid.Item token) in
      let g = guarded (class_of s) st (Ready ss (moves (class_of s) st)) q in
      let w = walked more (past at p) (moves (class_of s) st) (step s p at st t (g.0) a) (g.1) (h.1) in
      record { within = passed s p at st (AllWithin ss (moves (class_of s) st) vs) t a (h.0) w.within; end = w.end; agrees = w.agrees; shallow = w.shallow }
  walked (a_placed_magnitude {s = s} {ss = ss} {token = token} {vs = vs} t n more) at st a q h =
      let p : Piece = piece_of text (laid.Item token) in
      let g = guarded (class_of s) st (Ready ss (moves (class_of s) st)) q in
      let w = walked more (past at p) (moves (class_of s) st) (step s p at st t (g.0) a) (g.1) (h.1) in
      record { within = passed s p at st (AllWithin ss (moves (class_of s) st) vs) t a (h.0) w.within; end = w.end; agrees = w.agrees; shallow = w.shallow }
  walked (a_quoted {s = s} {ss = ss} {token = token} {vs = vs} t n more) at st a q h =
      let p : Piece = piece_of text (laid.Item token) in
      let g = guarded (class_of s) st (Ready ss (moves (class_of s) st)) q in
      let w = walked more (past at p) (moves (class_of s) st) (step s p at st t (g.0) a) (g.1) (h.1) in
      record { within = passed s p at st (AllWithin ss (moves (class_of s) st) vs) t a (h.0) w.within; end = w.end; agrees = w.agrees; shallow = w.shallow }
  walked (a_format {s = s} {ss = ss} {token = token} {vs = vs} t n more) at st a q h =
      let p : Piece = piece_of text (laid.Item token) in
      let g = guarded (class_of s) st (Ready ss (moves (class_of s) st)) q in
      let w = walked more (past at p) (moves (class_of s) st) (step s p at st t (g.0) a) (g.1) (h.1) in
      record { within = passed s p at st (AllWithin ss (moves (class_of s) st) vs) t a (h.0) w.within; end = w.end; agrees = w.agrees; shallow = w.shallow }

  pub start_agrees : Agrees no_levels (start 0 (Some 0) [])
  start_agrees = record { blocks = refl; dotted = refl; stack = (refl, tt) }

  pub all_within : {ls : List Laid} {names after : List (List ℕ)} {vs : Values (A Text ∷ [])} → Spells major text (A Text ∷ []) ls names vs [] after
      → Shallow no_levels (pieces_of text ls) → Within Text 0 (Some 0) [] vs.0
  all_within s h = (walked s no_levels (start 0 (Some 0) []) start_agrees tt h).within.0
