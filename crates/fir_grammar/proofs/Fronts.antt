-- What is spelled is derived, and the prefixes of what is derived are fronts.
use Rattle.std.proofs.Common.{ℕ, zero, suc, List, ◌∷◌, ◌++◌, take}
use Rattle.std.proofs.Math.Seq.{take-nil}
use Rattle.fir_layout.specs.declared.laid.Laid.{Laid}
use Rattle.fir_layout.specs.Pieces.{Piece, pieces_of}
use Rattle.fir_grammar.specs.Grammar.{Terminal, Takes, Rule, Symbol, Is, A, IsCase, Derives, done, meets, expands, Front, cut, takes_on, goes_into, Values, Spells, no_symbol, a_rule, a_piece, a_place, a_name, a_magnitude, a_placed_magnitude, a_quoted, a_format}

pub Derives-front : {ss : List Symbol} {ps : List Piece} (k : ℕ) → Derives ss ps → Front ss (take k ps)
Derives-front k done = rw (take-nil k) cut
Derives-front zero (meets h d) = cut
Derives-front (suc k) (meets h d) = takes_on h (Derives-front k d)
Derives-front k (expands body case d) = goes_into body case (Derives-front k d)

-- symbols that are spelled up to a place derive what stands before it, in front of what other symbols derive
pub spelled_derives : {major : ℕ} (text : List ℕ) {ss others : List Symbol} {ls rest : List Laid} {names after : List (List ℕ)} {vs : Values ss}
    → Spells major text ss ls names vs rest after → Derives others (pieces_of text rest) → Derives (ss ++ others) (pieces_of text ls)
spelled_derives text no_symbol d = d
spelled_derives text (a_rule case inner more) d = expands _ case (spelled_derives text inner (spelled_derives text more d))
spelled_derives text (a_piece h more) d = meets h (spelled_derives text more d)
spelled_derives text (a_place h more) d = meets h (spelled_derives text more d)
spelled_derives text (a_name h adds more) d = meets h (spelled_derives text more d)
spelled_derives text (a_magnitude h is more) d = meets h (spelled_derives text more d)
spelled_derives text (a_placed_magnitude h is more) d = meets h (spelled_derives text more d)
spelled_derives text (a_quoted h is more) d = meets h (spelled_derives text more d)
spelled_derives text (a_format h is more) d = meets h (spelled_derives text more d)

pub Front-taken : {k : _} {s : Terminal} {ss : List Symbol} {p : Piece} {ps : List Piece} → Front (Is k s ∷ ss) (p ∷ ps) → Takes s p × Front ss ps
Front-taken (takes_on h f) = (h, f)

pub Front-entered : {r : Rule} {ss : List Symbol} {p : Piece} {ps : List Piece} → Front (A r ∷ ss) (p ∷ ps) → (body : List Symbol) × IsCase r body × Front (body ++ ss) (p ∷ ps)
Front-entered (goes_into body case f) = (body, case, f)

pub Derives-entered : {r : Rule} {ss : List Symbol} {ps : List Piece} → Derives (A r ∷ ss) ps → (body : List Symbol) × IsCase r body × Derives (body ++ ss) ps
Derives-entered (expands body case d) = (body, case, d)

-- what is derived is a front
pub Derives-whole : {ss : List Symbol} {ps : List Piece} → Derives ss ps → Front ss ps
Derives-whole done = cut
Derives-whole (meets h d) = takes_on h (Derives-whole d)
Derives-whole (expands body case d) = goes_into body case (Derives-whole d)
