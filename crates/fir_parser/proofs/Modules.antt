-- Modules and ports: which case goes on, and lists that are read in a loop.
use Rattle.std.proofs.Common.{◌≡◌, ℕ, ◌<◌, Bool, true, false, not, MatchBool, List, [], ◌∷◌, ◌++◌, length, refl, codes, inl, inr}
use Rattle.std.proofs.lemmas.List.{append_assoc, append-nil}
use Rattle.fir_layout.specs.declared.laid.Laid.{Laid}
use Rattle.fir_types.specs.declared.name.Name.{Name}
use Rattle.fir_types.specs.declared.fir_type.FirType.{FirType}
use Rattle.fir_types.specs.declared.port.Port.{Port as ModulePort}
use Rattle.fir_tree.specs.declared.fault.ParseFault.{ParseFault}
use Rattle.item_lines.specs.declared.line.Line.{Line}
use Rattle.item_lines.specs.declared.line.LineModule.{LineModule as TheModule}
use Rattle.fir_grammar.specs.Grammar.{The_word, Opens, Closes, Symbol, Is, A, Nothing, Modules, Module, Ports, Port, Statements, Type_of, name, colon, line_end, close_block, IsCase, no_modules, a_module, a_public_module, no_module_body, last_module, next_module, next_port, last_port, an_input, an_output, Values, tree, Spells, no_symbol, a_rule}
use Rattle.fir_expr.specs.declared.reader.Reader.{Reader}
use Rattle.token_reader.proofs.Composition.{Enters}
use Rattle.fir_parser.specs.Taking.{pieces, HasTaken, Refuses}
use Rattle.fir_parser.specs.Expected.{Meets}
use Rattle.fir_parser.proofs.Joins.{joins, first, later, makes, breaks}
use Rattle.fir_parser.proofs.Entering.{enters_word, enters_part, enters_close, not_closes, not_opens, not_word}
use Rattle.fir_parser.proofs.Loops.{Continues, has_piece, shorter, drops_move}
use Rattle.fir_parser.specs.Heads.{BeginsPort, side_of}

-- which case goes on

pub into_module : (reader : Reader) → ¬ (Meets Closes reader) → Enters (pieces reader) reader.at next_module
into_module reader none = enters_part next_module reader (λ l stands ps. rw (not_closes reader l stands none ps) refl)

pub into_no_module_body : (reader : Reader) → ¬ (Meets Opens reader) → Enters (pieces reader) reader.at no_module_body
into_no_module_body reader none = enters_part no_module_body reader (λ l stands ps. rw (not_opens reader l stands none ps) refl)

pub into_no_modules : (reader : Reader) → ¬ (Meets Opens reader) → Enters (pieces reader) reader.at no_modules
into_no_modules reader none = enters_part no_modules reader (λ l stands ps. rw (not_opens reader l stands none ps) refl)

pub into_statements : (reader : Reader) → ¬ (Meets (The_word (codes "input")) reader) → ¬ (Meets (The_word (codes "output")) reader) → Enters (pieces reader) reader.at last_port
into_statements reader a b = enters_part last_port reader (λ l stands ps. rw (not_word reader l stands "input" a ps, not_word reader l stands "output" b ps) refl)

pub into_output : (reader : Reader) → ¬ (Meets (The_word (codes "input")) reader) → Enters (pieces reader) reader.at an_output
into_output reader a = enters_part an_output reader (λ l stands ps. rw (not_word reader l stands "input" a ps) refl)

pub into_plain_module : (reader : Reader) → ¬ (Meets (The_word (codes "public")) reader) → Enters (pieces reader) reader.at a_module
into_plain_module reader none = enters_part a_module reader (λ l stands ps. rw (not_word reader l stands "public" none ps) refl)

pub into_public_module : (reader : Reader) → Meets (The_word (codes "public")) reader → Enters (pieces reader) reader.at a_public_module
into_public_module reader m = enters_word a_public_module "public" (λ ps. refl) reader m

-- a port begins with either word
pub into_port : (reader : Reader) → BeginsPort reader → Enters (pieces reader) reader.at next_port
into_port reader (inl m) = enters_word next_port "input" (λ ps. refl) reader m
into_port reader (inr m) = enters_word next_port "output" (λ ps. refl) reader m

-- an output where no `input` stands
abbrev pub side_case : (output : Bool) → IsCase Port (Is Nothing (The_word (side_of output)) ∷ name ∷ colon ∷ A Type_of ∷ [])
side_case true = an_output
side_case false = an_input

pub enters_side : (reader : Reader) (met : Bool) → MatchBool met (Meets (The_word (codes "input")) reader) (¬ (Meets (The_word (codes "input")) reader)) → Enters (pieces reader) reader.at (side_case (not met))
enters_side reader true m = enters_word an_input "input" (λ ps. refl) reader m
enters_side reader false none = into_output reader none

pub side_port : (major : ℕ) (output : Bool) (id : Name) (typ : FirType) → tree major (side_case output) (id, (typ, tt)) ≡ record { output = output; name = id; typ = typ }
side_port major true id typ = refl
side_port major false id typ = refl

-- modules

module _ (old : Reader) where
  pub no_modules_yet : Continues Modules old old (λ v. [] ++ v)
  no_modules_yet = record { taken = λ new v h. h; refused = λ fault h. h }

  pub more_modules : (now next : Reader) (xs : List TheModule) (x : TheModule) → Continues Modules old now (λ v. xs ++ v) → ¬ (Meets Closes now) → HasTaken (A Module ∷ []) now next (x, tt)
      → Continues Modules old next (λ v. (xs ++ x ∷ []) ++ v)
  more_modules now next xs x c none h = record {
    taken = λ new v g. rw (append_assoc xs (x ∷ []) v) (c.taken new (x ∷ v) (makes next_module (into_module now none) (joins h g)));
    refused = λ fault g. c.refused fault (breaks next_module (into_module now none) (later h g));
  }

  pub module_refused : (now : Reader) (xs : List TheModule) (fault : ParseFault) → Continues Modules old now (λ v. xs ++ v) → ¬ (Meets Closes now) → Refuses (A Module ∷ []) now fault
      → Refuses (A Modules ∷ []) old fault
  module_refused now xs fault c none g = c.refused fault (breaks next_module (into_module now none) (first _ g))

  pub modules_closed : (now new : Reader) (xs : List TheModule) → Continues Modules old now (λ v. xs ++ v) → Meets Closes now → HasTaken (close_block ∷ []) now new tt
      → HasTaken (A Modules ∷ []) old new (xs, tt)
  modules_closed now new xs c m h = rw (append-nil xs) at (c.taken new [] (makes last_module (enters_close last_module (λ ps. refl) now m) h))

  pub modules_close_refused : (now : Reader) (xs : List TheModule) (fault : ParseFault) → Continues Modules old now (λ v. xs ++ v) → Meets Closes now → Refuses (close_block ∷ []) now fault
      → Refuses (A Modules ∷ []) old fault
  modules_close_refused now xs fault c m g = c.refused fault (breaks last_module (enters_close last_module (λ ps. refl) now m) g)

module_piece : {body : List Symbol} → IsCase Module body → has_piece body ≡ true
module_piece a_module = refl
module_piece a_public_module = refl

module_shorter : {major : ℕ} (text : List ℕ) {ls rest : List Laid} {names after : List (List ℕ)} {vs : Values (A Module ∷ [])} → Spells major text (A Module ∷ []) ls names vs rest after → length rest < length ls
module_shorter text (a_rule case inner no_symbol) = shorter text (module_piece case) inner

pub module_moves : (old new : Reader) (v : TheModule) → HasTaken (A Module ∷ []) old new (v, tt) → old.at < new.at
module_moves old new v h = drops_move old.laid.now old.at new.at (module_shorter old.bytes.now h.read.spelled)

-- ports, and then statements

module _ (old : Reader) where
  pub no_ports : Continues Ports old old (λ v. ([] ++ v.0, v.1))
  no_ports = record { taken = λ new v h. h; refused = λ fault h. h }

  pub more_ports : (now next : Reader) (xs : List ModulePort) (x : ModulePort) → Continues Ports old now (λ v. (xs ++ v.0, v.1)) → BeginsPort now → HasTaken (A Port ∷ line_end ∷ []) now next (x, tt)
      → Continues Ports old next (λ v. ((xs ++ x ∷ []) ++ v.0, v.1))
  more_ports now next xs x c begins h = record {
    taken = λ new v g. rw (append_assoc xs (x ∷ []) v.0) (c.taken new (x ∷ v.0, v.1) (makes next_port (into_port now begins) (joins h g)));
    refused = λ fault g. c.refused fault (breaks next_port (into_port now begins) (later h g));
  }

  pub port_refused : (now : Reader) (xs : List ModulePort) (fault : ParseFault) → Continues Ports old now (λ v. (xs ++ v.0, v.1)) → BeginsPort now → Refuses (A Port ∷ line_end ∷ []) now fault
      → Refuses (A Ports ∷ []) old fault
  port_refused now xs fault c begins g = c.refused fault (breaks next_port (into_port now begins) (first _ g))

  pub ports_end : (now new : Reader) (xs : List ModulePort) (ys : List Line) → Continues Ports old now (λ v. (xs ++ v.0, v.1)) → ¬ (BeginsPort now) → HasTaken (A Statements ∷ []) now new (ys, tt)
      → HasTaken (A Ports ∷ []) old new ((xs, ys), tt)
  ports_end now new xs ys c none h = rw (append-nil xs) at (c.taken new ([], ys) (makes last_port (into_statements now (λ m. none (inl m)) (λ m. none (inr m))) h))

  pub body_refused : (now : Reader) (xs : List ModulePort) (fault : ParseFault) → Continues Ports old now (λ v. (xs ++ v.0, v.1)) → ¬ (BeginsPort now) → Refuses (A Statements ∷ []) now fault
      → Refuses (A Ports ∷ []) old fault
  body_refused now xs fault c none g = c.refused fault (breaks last_port (into_statements now (λ m. none (inl m)) (λ m. none (inr m))) g)
