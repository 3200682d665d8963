-- Lists that are read in a loop, one item after the other.
use Rattle.std.proofs.Common.{◌≡◌, ℕ, zero, suc, ◌+◌, ◌<◌, ◌≤◌, ◌-◌, Bool, true, false, List, [], ◌∷◌, ◌++◌, length, drop, refl, sym, ap, ◌∙◌, arith, codes, slice_get, get_or, Some}
use Rattle.std.proofs.lemmas.Option.{slice_get-get_or}
use Rattle.std.proofs.Math.Path.{Path}
use Rattle.std.proofs.Math.Seq.{drop-nil}
use Rattle.std.proofs.lemmas.List.{length-drop, append_assoc, append-nil}
use Rattle.fir_layout.specs.declared.laid.Laid.{Laid}
use Rattle.fir_types.specs.declared.memory.MemLine.{MemLine}
use Rattle.item_lines.specs.declared.line.Line.{Line}
use Rattle.item_lines.specs.declared.line.Line.TheVariants as entry
use Rattle.item_lines.specs.declared.line.LineArm.{LineArm}
use Rattle.fir_tree.specs.declared.expr.Expr.{Expr}
use Rattle.fir_tree.specs.declared.print.Piece.{Piece}
use Rattle.fir_tree.specs.declared.print.Piece.TheVariants.{Bytes, Show}
use Rattle.item_lines.specs.Formats.{shows}
use Rattle.fir_tree.specs.declared.fault.ParseFault.{ParseFault}
use Rattle.fir_grammar.specs.Grammar.{The_word, Closes, Symbol, Is, A, Rule, Memory_lines, Memory_line, Statements, Statement, Branches, Block, Expression, Expressions, word, colon, line_end, close_block, IsCase, a_wire, a_register, a_reset_register, a_memory, an_instance, a_node, a_connect, an_invalidate, a_when, a_skip, a_print, a_stop, last_memory_line, next_memory_line, last_statement, next_statement, no_branch, else_when, else_, no_more_expressions, one_more_expression, Values, Tree, Spells, no_symbol, a_rule, a_piece, a_place, a_name, a_magnitude, a_placed_magnitude, a_quoted, a_format}
use Rattle.fir_expr.specs.declared.reader.Reader.{Reader}
use Rattle.token_reader.proofs.Composition.{Enters, enters_always, drop_at}
use Rattle.fir_parser.specs.Taking.{pieces, HasTaken, Refuses}
use Rattle.fir_parser.specs.Expected.{Meets}
use Rattle.fir_parser.specs.Branching.{Branched}
use Rattle.fir_parser.proofs.Joins.{joins, first, later, makes, breaks, nothing_taken}
use Rattle.fir_parser.proofs.Entering.{enters_close, into_memory_line, into_statement, into_no_branch}

-- What makes the rule from a later place on makes it from here on, with its tree changed so; a refusal there is one here.
pub record Continues (r : Rule) (old now : Reader) (build : Tree r → Tree r) : Type 0 where
  pub taken : (new : Reader) (v : Tree r) → HasTaken (A r ∷ []) now new (v, tt) → HasTaken (A r ∷ []) old new (build v, tt)
  pub refused : (fault : ParseFault) → Refuses (A r ∷ []) now fault → Refuses (A r ∷ []) old fault

-- statements

module _ (old : Reader) where
  pub no_statements : Continues Statements old old (λ v. [] ++ v)
  no_statements = record { taken = λ new v h. h; refused = λ fault h. h }

  pub more_statements : (now next : Reader) (xs : List Line) (x : Line) → Continues Statements old now (λ v. xs ++ v) → ¬ (Meets Closes now) → HasTaken (A Statement ∷ []) now next (x, tt)
      → Continues Statements old next (λ v. (xs ++ x ∷ []) ++ v)
  more_statements now next xs x c none h = record {
    taken = λ new v g. rw (append_assoc xs (x ∷ []) v) (c.taken new (x ∷ v) (makes next_statement (into_statement now none) (joins h g)));
    refused = λ fault g. c.refused fault (breaks next_statement (into_statement now none) (later h g));
  }

  pub statement_refused : (now : Reader) (xs : List Line) (fault : ParseFault) → Continues Statements old now (λ v. xs ++ v) → ¬ (Meets Closes now) → Refuses (A Statement ∷ []) now fault
      → Refuses (A Statements ∷ []) old fault
  statement_refused now xs fault c none g = c.refused fault (breaks next_statement (into_statement now none) (first _ g))

  pub statements_closed : (now new : Reader) (xs : List Line) → Continues Statements old now (λ v. xs ++ v) → Meets Closes now → HasTaken (close_block ∷ []) now new tt
      → HasTaken (A Statements ∷ []) old new (xs, tt)
  statements_closed now new xs c m h = rw (append-nil xs) at (c.taken new [] (makes last_statement (enters_close last_statement (λ ps. refl) now m) h))

  pub close_refused : (now : Reader) (xs : List Line) (fault : ParseFault) → Continues Statements old now (λ v. xs ++ v) → Meets Closes now → Refuses (close_block ∷ []) now fault
      → Refuses (A Statements ∷ []) old fault
  close_refused now xs fault c m g = c.refused fault (breaks last_statement (enters_close last_statement (λ ps. refl) now m) g)

-- memory lines

module _ (old : Reader) where
  pub no_lines : Continues Memory_lines old old (λ v. [] ++ v)
  no_lines = record { taken = λ new v h. h; refused = λ fault h. h }

  pub more_lines : (now next : Reader) (xs : List MemLine) (x : MemLine) → Continues Memory_lines old now (λ v. xs ++ v) → ¬ (Meets Closes now) → HasTaken (A Memory_line ∷ line_end ∷ []) now next (x, tt)
      → Continues Memory_lines old next (λ v. (xs ++ x ∷ []) ++ v)
  more_lines now next xs x c none h = record {
    taken = λ new v g. rw (append_assoc xs (x ∷ []) v) (c.taken new (x ∷ v) (makes next_memory_line (into_memory_line now none) (joins h g)));
    refused = λ fault g. c.refused fault (breaks next_memory_line (into_memory_line now none) (later h g));
  }

  pub line_refused : (now : Reader) (xs : List MemLine) (fault : ParseFault) → Continues Memory_lines old now (λ v. xs ++ v) → ¬ (Meets Closes now) → Refuses (A Memory_line ∷ line_end ∷ []) now fault
      → Refuses (A Memory_lines ∷ []) old fault
  line_refused now xs fault c none g = c.refused fault (breaks next_memory_line (into_memory_line now none) (first _ g))

  pub lines_closed : (now new : Reader) (xs : List MemLine) → Continues Memory_lines old now (λ v. xs ++ v) → Meets Closes now → HasTaken (close_block ∷ []) now new tt
      → HasTaken (A Memory_lines ∷ []) old new (xs, tt)
  lines_closed now new xs c m h = rw (append-nil xs) at (c.taken new [] (makes last_memory_line (enters_close last_memory_line (λ ps. refl) now m) h))

  pub lines_close_refused : (now : Reader) (xs : List MemLine) (fault : ParseFault) → Continues Memory_lines old now (λ v. xs ++ v) → Meets Closes now → Refuses (close_block ∷ []) now fault
      → Refuses (A Memory_lines ∷ []) old fault
  lines_close_refused now xs fault c m g = c.refused fault (breaks last_memory_line (enters_close last_memory_line (λ ps. refl) now m) g)

-- what takes a piece moves on

abbrev pub has_piece : List Symbol → Bool
has_piece [] = false
has_piece (Is k s ∷ ss) = true
has_piece (A r ∷ ss) = has_piece ss

not_longer : {major : ℕ} (text : List ℕ) {ss : List Symbol} {ls rest : List Laid} {names after : List (List ℕ)} {vs : Values ss} → Spells major text ss ls names vs rest after → length rest ≤ length ls
not_longer text no_symbol = omega arith
not_longer text (a_rule case inner more) = let a = not_longer text inner in let b = not_longer text more in omega (arith, a, b)
not_longer text (a_piece h more) = let b = not_longer text more in omega (arith, b)
not_longer text (a_place h more) = let b = not_longer text more in omega (arith, b)
not_longer text (a_name h adds more) = let b = not_longer text more in omega (arith, b)
not_longer text (a_magnitude h is more) = let b = not_longer text more in omega (arith, b)
not_longer text (a_placed_magnitude h is more) = let b = not_longer text more in omega (arith, b)
not_longer text (a_quoted h is more) = let b = not_longer text more in omega (arith, b)
not_longer text (a_format h is more) = let b = not_longer text more in omega (arith, b)

pub shorter : {major : ℕ} (text : List ℕ) {ss : List Symbol} {ls rest : List Laid} {names after : List (List ℕ)} {vs : Values ss} → has_piece ss ≡ true → Spells major text ss ls names vs rest after → length rest < length ls
shorter text some no_symbol = cc
shorter text some (a_rule case inner more) = let a = not_longer text inner in let b = shorter text some more in omega (arith, a, b)
shorter text some (a_piece h more) = let b = not_longer text more in omega (arith, b)
shorter text some (a_place h more) = let b = not_longer text more in omega (arith, b)
shorter text some (a_name h adds more) = let b = not_longer text more in omega (arith, b)
shorter text some (a_magnitude h is more) = let b = not_longer text more in omega (arith, b)
shorter text some (a_placed_magnitude h is more) = let b = not_longer text more in omega (arith, b)
shorter text some (a_quoted h is more) = let b = not_longer text more in omega (arith, b)
shorter text some (a_format h is more) = let b = not_longer text more in omega (arith, b)

pub drops_move : (list : List Laid) (i j : ℕ) → length (drop j list) < length (drop i list) → i < j
drops_move list i j h = let a = length-drop i list in let b = length-drop j list in omega (arith, a, b, h)

pub moves : (old new : Reader) (ss : List Symbol) (vs : Values ss) → has_piece ss ≡ true → HasTaken ss old new vs → old.at < new.at
moves old new ss vs some h = drops_move old.laid.now old.at new.at (shorter old.bytes.now some h.read.spelled)

statement_piece : {body : List Symbol} → IsCase Statement body → has_piece body ≡ true
statement_piece a_wire = refl
statement_piece a_register = refl
statement_piece a_reset_register = refl
statement_piece a_memory = refl
statement_piece an_instance = refl
statement_piece a_node = refl
statement_piece a_connect = refl
statement_piece an_invalidate = refl
statement_piece a_when = refl
statement_piece a_skip = refl
statement_piece a_print = refl
statement_piece a_stop = refl

statement_shorter : {major : ℕ} (text : List ℕ) {ls rest : List Laid} {names after : List (List ℕ)} {vs : Values (A Statement ∷ [])} → Spells major text (A Statement ∷ []) ls names vs rest after → length rest < length ls
statement_shorter text (a_rule case inner no_symbol) = shorter text (statement_piece case) inner

pub statement_moves : (old new : Reader) (v : Line) → HasTaken (A Statement ∷ []) old new (v, tt) → old.at < new.at
statement_moves old new v h = drops_move old.laid.now old.at new.at (statement_shorter old.bytes.now h.read.spelled)

pub smaller : (old new : Reader) → new.laid.now ≡ old.laid.now → old.at < new.at → new.at ≤ length new.laid.now → length new.laid.now - new.at < length old.laid.now - old.at
smaller old new same onward within =
    let counted : length new.laid.now ≡ length old.laid.now = ap (λ (ls : List Laid). length ls) same in
    omega (arith, counted, onward, within)

-- the branches of a `when`

pub record Branches_so_far (old now : Reader) (before arms : List LineArm) : Type 0 where
  pub more : List LineArm
  pub made : arms ≡ before ++ more
  pub continues : Continues Branches old now (λ v. (more ++ v.0, v.1))

module _ (old : Reader) (before : List LineArm) where
  pub no_branches : Branches_so_far old old before before
  no_branches = record { more = []; made = sym (append-nil before); continues = record { taken = λ new v h. h; refused = λ fault h. h } }

  pub more_branches : (now next : Reader) (arms : List LineArm) (x : LineArm) → Branches_so_far old now before arms → Enters (pieces now) now.at else_when
      → HasTaken (word "else" ∷ word "when" ∷ A Expression ∷ colon ∷ line_end ∷ A Block ∷ []) now next (x.condition, (x.body, tt)) → Branches_so_far old next before (arms ++ x ∷ [])
  more_branches now next arms x b enters h = record {
    more = b.more ++ x ∷ [];
    made = ap (λ (ys : List LineArm). ys ++ x ∷ []) b.made ∙ append_assoc before b.more (x ∷ []);
    continues = record {
      taken = λ new v g. rw (append_assoc b.more (x ∷ []) v.0) (b.continues.taken new (x ∷ v.0, v.1) (makes else_when enters (joins h g)));
      refused = λ fault g. b.continues.refused fault (breaks else_when enters (later h g));
    };
  }

  pub branch_refused : (now : Reader) (arms : List LineArm) (fault : ParseFault) → Branches_so_far old now before arms → Enters (pieces now) now.at else_when
      → Refuses (word "else" ∷ word "when" ∷ A Expression ∷ colon ∷ line_end ∷ A Block ∷ []) now fault → Refuses (A Branches ∷ []) old fault
  branch_refused now arms fault b enters g = b.continues.refused fault (breaks else_when enters (first _ g))

  pub else_refused : (now : Reader) (arms : List LineArm) (fault : ParseFault) → Branches_so_far old now before arms → Enters (pieces now) now.at else_
      → Refuses (word "else" ∷ colon ∷ line_end ∷ A Block ∷ []) now fault → Refuses (A Branches ∷ []) old fault
  else_refused now arms fault b enters g = b.continues.refused fault (breaks else_ enters g)

  pub else_taken : (now new : Reader) (arms : List LineArm) (other : List Line) → Branches_so_far old now before arms → Enters (pieces now) now.at else_
      → HasTaken (word "else" ∷ colon ∷ line_end ∷ A Block ∷ []) now new (other, tt) → Branched before old new arms other
  else_taken now new arms other b enters h = record { more = b.more; made = b.made; taken = rw (append-nil b.more) at (b.continues.taken new ([], other) (makes else_ enters h)) }

  pub branches_end : (now : Reader) (arms : List LineArm) → Branches_so_far old now before arms → ¬ (Meets (The_word (codes "else")) now) → now.at ≤ length now.laid.now
      → Branched before old now arms []
  branches_end now arms b none within = record {
    more = b.more;
    made = b.made;
    taken = rw (append-nil b.more) at (b.continues.taken now ([], []) (makes no_branch (into_no_branch now none) (nothing_taken now within)));
  }

-- a `when` with its branches
pub when_taken : (old a b new : Reader) (arm : LineArm) (arms all : List LineArm) (other : List Line) → Enters (pieces old) old.at a_when → HasTaken (word "when" ∷ []) old a tt
    → HasTaken (A Expression ∷ colon ∷ line_end ∷ A Block ∷ []) a b (arm.condition, (arm.body, tt)) → arms ≡ arm ∷ [] → Branched arms b new all other
    → HasTaken (A Statement ∷ []) old new (entry.Branch all other, tt)
when_taken old a b new arm arms all other enters h g one r =
    let made : all ≡ arm ∷ r.more = r.made ∙ ap (λ (xs : List LineArm). xs ++ r.more) one in
    rw made (makes a_when enters (joins (joins h g) r.taken))

-- the arguments of a `printf`: so many have yet to be read

pub record Awaits_more (old now : Reader) (count : ℕ) (xs : List Expr) (left : ℕ) : Type 0 where
  pub taken : (new : Reader) (v : List Expr) → HasTaken (A (Expressions left) ∷ []) now new (v, tt) → HasTaken (A (Expressions count) ∷ []) old new (xs ++ v, tt)
  pub refused : (fault : ParseFault) → Refuses (A (Expressions left) ∷ []) now fault → Refuses (A (Expressions count) ∷ []) old fault

none_case : (other : List Symbol) → IsCase (Expressions 0) other → Path (List Symbol) other []
none_case _ no_more_expressions = refl

more_case : (n : ℕ) (other : List Symbol) → IsCase (Expressions (suc n)) other → Path (List Symbol) other (A Expression ∷ A (Expressions n) ∷ [])
more_case n _ (one_more_expression _) = refl

into_more : (reader : Reader) (n : ℕ) → Enters (pieces reader) reader.at (one_more_expression n)
into_more reader n = enters_always (pieces reader) reader.at (one_more_expression n) (more_case n)

module _ (old : Reader) (count : ℕ) where
  pub no_arguments : Awaits_more old old count [] count
  no_arguments = record { taken = λ new v h. h; refused = λ fault h. h }

  pub more_arguments : (now next : Reader) (left : ℕ) (xs : List Expr) (x : Expr) → Awaits_more old now count xs (suc left) → HasTaken (A Expression ∷ []) now next (x, tt)
      → Awaits_more old next count (xs ++ x ∷ []) left
  more_arguments now next left xs x c h = record {
    taken = λ new v g. rw (append_assoc xs (x ∷ []) v) (c.taken new (x ∷ v) (makes (one_more_expression left) (into_more now left) (joins h g)));
    refused = λ fault g. c.refused fault (breaks (one_more_expression left) (into_more now left) (later h g));
  }

  pub argument_refused : (now : Reader) (left : ℕ) (xs : List Expr) (fault : ParseFault) → Awaits_more old now count xs (suc left) → Refuses (A Expression ∷ []) now fault
      → Refuses (A (Expressions count) ∷ []) old fault
  argument_refused now left xs fault c g = c.refused fault (breaks (one_more_expression left) (into_more now left) (first _ g))

  pub arguments_end : (now : Reader) (xs : List Expr) → Awaits_more old now count xs 0 → now.at ≤ length now.laid.now → HasTaken (A (Expressions count) ∷ []) old now (xs, tt)
  arguments_end now xs c within = rw (append-nil xs) at (c.taken now [] (makes no_more_expressions (enters_always (pieces now) now.at no_more_expressions none_case) (nothing_taken now within)))

-- what the pieces from a place on show

shows_first : (p : Piece) (rest : List Piece) → shows (p ∷ []) ≡ 1 → shows (p ∷ rest) ≡ suc (shows rest)
shows_first (Bytes text) rest e = cc
shows_first (Show radix) rest e = omega arith

shows_none : (p : Piece) (rest : List Piece) → shows (p ∷ []) ≡ 0 → shows (p ∷ rest) ≡ shows rest
shows_none (Bytes text) rest e = refl
shows_none (Show radix) rest e = cc

pub piece_stands : (ps : List Piece) (i : ℕ) (p : Piece) → i < length ps → p ≡ get_or ps i p → slice_get ps i ≡ Some p
piece_stands ps i p within is = slice_get-get_or ps i p within ∙ ap (λ (q : Piece). Some q) (sym is)

module _ (ps : List Piece) (i : ℕ) (p : Piece) (stands : slice_get ps i ≡ Some p) where
  pub one_shown : shows (p ∷ []) ≡ 1 → shows (drop i ps) ≡ suc (shows (drop (i + 1) ps))
  one_shown e = ap shows (drop_at ps i p stands) ∙ shows_first p (drop (i + 1) ps) e

  pub none_shown : shows (p ∷ []) ≡ 0 → shows (drop i ps) ≡ shows (drop (i + 1) ps)
  none_shown e = ap shows (drop_at ps i p stands) ∙ shows_none p (drop (i + 1) ps) e

pub shows_end : (ps : List Piece) (i : ℕ) → length ps ≤ i → shows (drop i ps) ≡ 0
shows_end [] i past = ap shows (drop-nil i)
shows_end (p ∷ ps) zero past = absurd (omega (arith, past))
shows_end (p ∷ ps) (suc i) past = shows_end ps i (omega (arith, past))
