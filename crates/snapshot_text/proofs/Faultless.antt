-- A text that is read as a state has no fault.
use Rattle.std.proofs.Common.{◌≡◌, ℕ, ◌+◌, ◌≤◌, List, [], ◌∷◌, ◌++◌, length, drop, refl, sym, ap, ◌∙◌, subst, arith, ⊎_elim, ℤ}
use Rattle.std.specs.Prelude.{codes, All}
use Rattle.std.proofs.lemmas.List.{append_assoc}
use Rattle.std.proofs.lemmas.List.Elements.{All-head, All-tail}
use Rattle.bit_words.specs.Numbers.{WritesDigits}
use Rattle.bit_words.specs.declared.number.Base.TheVariants.{Decimal}
use Rattle.place_text.specs.First.{HasNone}
use Rattle.snapshot_text.specs.declared.fault.StateFault.{StateFault}
use Rattle.snapshot_text.specs.Cells.{Cell}
use Rattle.snapshot_text.specs.Texts.{IsLine, AreLines, IsState}
use Rattle.snapshot_text.specs.Faults.{lines_from, IsFault, AreFaults, AreAllFaults}
use Rattle.snapshot_text.specs.Snapshots.{IsNamed}
use Rattle.snapshot_text.specs.Steps.{Lacks}
use Rattle.snapshot_text.specs.Going.{AreLineWords, AreHeadWords}
use Rattle.snapshot_text.proofs.Numbers.{number_plain, digits_plain}
use Rattle.snapshot_text.proofs.Cutting.{lacks_append, unbroken_lacks}
use Rattle.snapshot_text.proofs.Judging.{told, rest_is}
use Rattle.snapshot_text.proofs.Heading.{head_read, behind_head}

no_feed_space : ◌≡◌ {A = ℕ} 32 10 → ⊥
no_feed_space e = omega (arith, e)

abbrev line_words : (cell : Cell) (text : List ℕ) (v : ℤ) (rest : List ℕ) → IsNamed cell → (l : IsLine cell text v rest) → AreLineWords text cell.word cell.name l.bytes
line_words cell text v rest named l =
    let w = unbroken_lacks cell.word named.word in
    let n = unbroken_lacks cell.name named.name in
    record {
      rest = rest;
      is = l.is ∙ sym (append_assoc cell.word (32 ∷ (cell.name ++ (32 ∷ l.bytes))) (10 ∷ rest) ∙ ap (λ bs. cell.word ++ (32 ∷ bs)) (append_assoc cell.name (32 ∷ l.bytes) (10 ∷ rest)));
      in_line = lacks_append 10 cell.word (32 ∷ (cell.name ++ (32 ∷ l.bytes))) w.1
          (no_feed_space, lacks_append 10 cell.name (32 ∷ l.bytes) n.1 (no_feed_space, number_plain l.bytes l.number.negative l.number.magnitude l.written));
      of_word = w.0;
      of_name = n.0;
      some = named.some;
      number = l.number;
      written = l.written;
    }

lines_none : (whole : List ℕ) (cells : List Cell) (at : ℕ) (text : List ℕ) (vs : List ℤ) → at ≤ length whole → drop at whole ≡ text → All IsNamed cells → AreLines cells text vs → (fault : StateFault) → ¬ (AreFaults whole cells (lines_from at text) fault)
lines_none whole [] at text [] le e named h fault f = subst (λ bs. AreFaults whole [] (lines_from at bs) fault) h f
lines_none whole [] at text (v ∷ vs) le e named h fault f = absurd h
lines_none whole (cell ∷ cells) at text [] le e named h fault f = absurd h
lines_none whole (cell ∷ cells) at text (v ∷ vs) le e named (rest, l, ls) fault f =
    let here = All-head IsNamed cell cells named in
    let line = subst (λ bs. IsLine cell bs v rest) (sym e) l in
    let words = line_words cell (drop at whole) v rest here line in
    let t = told whole cell cells at le cell.word cell.name line.bytes words (λ n. n) refl refl v line.value line.fits in
    let behind = at + length (cell.word ++ (32 ∷ (cell.name ++ (32 ∷ line.bytes)))) + 1 in
    let after : drop behind whole ≡ rest = rest_is whole cell cells at le cell.word cell.name line.bytes words in
    let ahead : AreFaults whole (cell ∷ cells) (t.first ∷ lines_from behind (drop behind whole)) fault =
    subst (λ lines. AreFaults whole (cell ∷ cells) lines fault) (ap (lines_from at) (sym e) ∙ t.lines) f in
    ⊎_elim (λ g. t.none fault g) (λ g. lines_none whole cells behind (drop behind whole) vs t.within refl (All-tail IsNamed cell cells named) (subst (λ bs. AreLines cells bs vs) (sym after) ls) fault g) ahead

state_lacks : Lacks 10 (codes "state") × Lacks 32 (codes "state")
state_lacks = (
  ((λ e. omega (arith, e)), ((λ e. omega (arith, e)), ((λ e. omega (arith, e)), ((λ e. omega (arith, e)), ((λ e. omega (arith, e)), tt))))),
  ((λ e. omega (arith, e)), ((λ e. omega (arith, e)), ((λ e. omega (arith, e)), ((λ e. omega (arith, e)), ((λ e. omega (arith, e)), tt))))),
)

not_nil : (x : ℕ) (xs : List ℕ) → x ∷ xs ≡ [] → ⊥
not_nil x xs e = absurd cc

abbrev head_words : (text digits rest : List ℕ) (n : ℕ) → text ≡ codes "state " ++ (digits ++ (10 ∷ rest)) → WritesDigits Decimal digits n → AreHeadWords text (codes "state") digits
head_words text digits rest n e w = record {
  rest = rest;
  is = e;
  in_line = lacks_append 10 (codes "state") (32 ∷ digits) state_lacks.0 (no_feed_space, digits_plain 10 digits (omega arith) w.digits);
  of_word = state_lacks.1;
  some = not_nil 115 (codes "tate");
}

pub faultless : (cells : List Cell) (text : List ℕ) (cycle : ℕ) (values : List ℤ) → All IsNamed cells → IsState cells text cycle values → HasNone (IsFault cells text)
faultless cells text cycle values named s fault f =
    let words = head_words text s.digits s.rest cycle s.is s.counted in
    let h = head_read text (codes "state") s.digits words cycle s.counted refl s.few in
    let behind = 0 + length (codes "state" ++ (32 ∷ s.digits)) + 1 in
    let after : drop behind text ≡ s.rest = behind_head text (codes "state") s.digits words in
    ⊎_elim (λ g. h.none fault g) (λ g. lines_none text cells behind (drop behind text) values h.within refl named (subst (λ bs. AreLines cells bs values) (sym after) s.lines) fault g)
    (subst (λ lines. AreAllFaults text cells lines fault) h.lines f)
