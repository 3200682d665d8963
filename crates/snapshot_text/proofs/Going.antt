-- Line by line over a text.
use Rattle.std.proofs.Common.{◌≡◌, ℕ, ◌<◌, ◌≤◌, List, [], ◌∷◌, ◌++◌, length, drop, refl, sym, ap, subst, arith, inr, ⊎_elim, ℤ}
use Rattle.std.specs.List.{AllZip}
use Rattle.std.proofs.lemmas.List.{append_assoc, append-nil, length-drop, drop_all}
use Rattle.place_text.specs.Places.{place}
use Rattle.place_text.specs.First.{IsFirst, HasNone}
use Rattle.snapshot_text.specs.declared.fault.StateFault.{StateFault}
use Rattle.snapshot_text.specs.declared.fault.StateFault.TheVariants.{BadLine}
use Rattle.snapshot_text.specs.Cells.{Cell}
use Rattle.snapshot_text.specs.Texts.{AreLines, Holds, IsState}
use Rattle.snapshot_text.specs.Faults.{Line, lines_from, AreFaults, AreAllFaults, IsFault, place_of, rank_of}
use Rattle.snapshot_text.specs.Going.{IsTold, IsFirstFrom, IsReadTo, IsHead}
use Rattle.snapshot_text.proofs.Lining.{faults_stand_from, begins_first, first_at, no_lines}

pub read_none : (text : List ℕ) (cells : List Cell) (start : ℕ) → IsReadTo text cells start cells start []
read_none text cells start = record { to = λ fault f. f; from = λ fault f. f; lines = λ vs h. h; fits = λ vs h. h }

pub read_more : (text : List ℕ) (cells : List Cell) (start : ℕ) (cell : Cell) (ahead : List Cell) (at : ℕ) (done : List ℤ) (v : ℤ) (behind : ℕ)
    → IsReadTo text cells start (cell ∷ ahead) at done → IsTold text cell at v behind → Holds cell v → IsReadTo text cells start ahead behind (done ++ v ∷ [])
read_more text cells start cell ahead at done v behind r t h = record {
  to = λ fault f. ⊎_elim (λ g. absurd (t.none fault g)) (λ g. g) (subst (λ lines. AreFaults text (cell ∷ ahead) lines fault) t.lines (r.to fault f));
  from = λ fault f. r.from fault (subst (λ lines. AreFaults text (cell ∷ ahead) lines fault) (sym t.lines) (inr f));
  lines = λ vs l. subst (AreLines cells (drop start text)) (sym (append_assoc done (v ∷ []) vs)) (r.lines (v ∷ vs) (drop behind text, t.line, l));
  fits = λ vs f. subst (AllZip Holds cells) (sym (append_assoc done (v ∷ []) vs)) (r.fits (v ∷ vs) (h, f));
}

pub read_both : (text : List ℕ) (cells middle ahead : List Cell) (start between at : ℕ) (done more : List ℤ) → IsReadTo text cells start middle between done → IsReadTo text middle between ahead at more
    → IsReadTo text cells start ahead at (done ++ more)
read_both text cells middle ahead start between at done more r s = record {
  to = λ fault f. s.to fault (r.to fault f);
  from = λ fault f. r.from fault (s.from fault f);
  lines = λ vs l. subst (AreLines cells (drop start text)) (sym (append_assoc done more vs)) (r.lines (more ++ vs) (s.lines vs l));
  fits = λ vs f. subst (AllZip Holds cells) (sym (append_assoc done more vs)) (r.fits (more ++ vs) (s.fits vs f));
}

-- the first fault of what is ahead is the first one of all
pub read_first : (text : List ℕ) (cells ahead : List Cell) (start at : ℕ) (done : List ℤ) (fault : StateFault) → IsReadTo text cells start ahead at done → IsFirstFrom text ahead at fault → IsFirstFrom text cells start fault
read_first text cells ahead start at done fault r f = record { is = r.from fault f.is; first = λ other g. f.first other (r.to other g) }

pub head_first : (text : List ℕ) (cells : List Cell) (cycle behind : ℕ) (fault : StateFault) → IsHead text cycle behind → IsFirstFrom text cells behind fault → IsFirst place_of rank_of (IsFault cells text) fault
head_first text cells cycle behind fault h f = record {
  is = subst (λ lines. AreAllFaults text cells lines fault) (sym h.lines) (inr f.is);
  first = λ other g. ⊎_elim (λ o. absurd (h.none other o)) (λ o. f.first other o) (subst (λ lines. AreAllFaults text cells lines other) h.lines g);
}

-- a line that is too many
pub too_many : (text : List ℕ) (at : ℕ) → at < length text → IsFirstFrom text [] at (BadLine (place text at))
too_many text at lt = record {
  is = at_lines (lines_from at (drop at text)) refl;
  first = λ other f. begins_first text at (BadLine (place text at)) other (record { within = omega (arith, lt); is = refl }) refl (faults_stand_from text [] at other (omega (arith, lt)) f);
}
  where
    at_lines : (lines : List Line) → lines_from at (drop at text) ≡ lines → AreFaults text [] lines (BadLine (place text at))
    at_lines [] e = let none = no_lines at (drop at text) e in let long = length-drop at text in absurd (omega (arith, lt, none, long))
    at_lines (line ∷ lines) e = ap (λ n. BadLine (place text n)) (sym (first_at at (drop at text) line lines e))

-- The whole text was read.
pub record IsDone (text : List ℕ) (cells : List Cell) (cycle : ℕ) (values : List ℤ) : Type 0 where
  pub none : HasNone (IsFault cells text)
  pub state : IsState cells text cycle values
  pub fits : AllZip Holds cells values

pub all_read : (text : List ℕ) (cells : List Cell) (cycle start at : ℕ) (values : List ℤ) → IsHead text cycle start → IsReadTo text cells start [] at values → length text ≤ at → IsDone text cells cycle values
all_read text cells cycle start at values h r le =
    let end : drop at text ≡ [] = drop_all at text le in
    record {
      none = λ fault f. ⊎_elim (λ o. h.none fault o) (λ o. subst (λ bs. AreFaults text [] (lines_from at bs) fault) end (r.to fault o)) (subst (λ lines. AreAllFaults text cells lines fault) h.lines f);
      state = record { digits = h.digits; rest = drop start text; is = h.is; counted = h.counted; few = h.few; lines = subst (AreLines cells (drop start text)) (append-nil values) (r.lines [] end) };
      fits = subst (AllZip Holds cells) (append-nil values) (r.fits [] tt);
    }
