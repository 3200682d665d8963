-- Steps of growing keep a draft in order.
use Rattle.std.proofs.Common.{◌≡◌, ◌==◌, ℕ, zero, suc, ◌+◌, ◌<◌, ◌≤◌, Bool, true, false, ◌||◌, List, [], ◌∷◌, ◌++◌, length, Some, All, get_or, refl, sym, ap, ap₂, ◌∙◌, arith, ⊎_elim, ◌⊎◌, inl, inr}
use Rattle.std.proofs.lemmas.Bool.{cases_eq, cases_Bool, false≢true}
use Rattle.std.proofs.lemmas.Grind.{common_steps}
use Rattle.std.proofs.lemmas.List.Elements.{All-push, All-pop}
use Rattle.phase_core.specs.declared.model.Publication.{Publication}
use Rattle.flat_code.specs.declared.instr.Op.{Op}
use Rattle.flat_code.specs.declared.instr.Instr.{Instr}
use Rattle.flat_code.specs.declared.instr.Port.{Port}
use Rattle.flat_code.specs.declared.instr.Location.{Location}
use Rattle.flat_code.specs.declared.instr.Wide.{Wide}
use Rattle.flat_code.specs.Meaning.{pushed, pushed_on}
use Rattle.flat_code.specs.Fine.{FineOn, IsFine, IsWide, IsPort, IsLocation, Known, nothing, more, among, written, AreKnown, reads_on, reads_of, writes_on, writes_of, location_slots}
use Rattle.flat_code.specs.Orders.{AreNew, Single, Solves, pushed_all}
use Rattle.flat_code.proofs.Frames.{fine_more, location_more}
use Rattle.code_draft.specs.declared.draft.Draft.{Draft}
use Rattle.code_draft.specs.Drafts.{IsDraft, Grows, Stands, written_in, with_instr, with_slots}

-- One instruction more

pub written_last : (known : Known) (wides : List Wide) (is : List Instr) (i : Instr) (k : ℕ) → written known wides (is ++ i ∷ []) k ≡ (among (writes_of wides i) k || written known wides is k)
written_last known wides [] i k = refl
written_last known wides (j ∷ js) i k = written_last (more (writes_of wides j) known) wides js i k

pub single_last : (known : Known) (ports : List Port) (wides : List Wide) (is : List Instr) (i : Instr) → Single known ports wides is → AreKnown (written known wides is) (reads_of ports wides i)
    → AreNew (written known wides is) (writes_of wides i) → Single known ports wides (is ++ i ∷ [])
single_last known ports wides [] i s reads new = (reads, new, tt)
single_last known ports wides (j ∷ js) i s reads new = (s.0, s.1, single_last (more (writes_of wides j) known) ports wides js i s.2 reads new)

quiet_last : (ports : List Port) (is : List Instr) (i : Instr) (F : List ℕ) → pushed ports i F ≡ [] → pushed_all ports (is ++ i ∷ []) F ≡ pushed_all ports is F
quiet_last ports [] i F h = ap (λ (ps : List Publication). ps ++ []) h
quiet_last ports (j ∷ js) i F h = ap (λ ps. pushed ports j F ++ ps) (quiet_last ports js i F h)

pub all_last : {X : Type 0} (P : X → Type 0) (xs : List X) (x : X) → All P (xs ++ x ∷ []) → P x
all_last P xs x a = (All-pop P (xs ++ x ∷ []) xs (Some x) refl a).1

pub all_front : {X : Type 0} (P : X → Type 0) (xs : List X) (x : X) → All P (xs ++ x ∷ []) → All P xs
all_front P xs x a = (All-pop P (xs ++ x ∷ []) xs (Some x) refl a).0

-- What the next instruction must be.
pub record Follows (d : Draft) (o : Op) (i : Instr) : Type 0 where
  pub fine : FineOn o d.slots d.words (length d.ports) (length d.wides) i
  pub reads : AreKnown (written_in d) (reads_on o d.ports d.wides i)
  pub new : AreNew (written_in d) (writes_on o d.wides i)
  pub within : (k : ℕ) → among (writes_on o d.wides i) k ≡ true → k < d.slots
  pub quiet : (F : List ℕ) → pushed_on o d.ports i F ≡ []

either : (a b : Bool) → (a || b) ≡ true → (a ≡ true) ⊎ (b ≡ true)
either true b e = inl refl
either false b e = inr e

wider : (a b : Bool) → b ≡ true → (a || b) ≡ true
wider true b e = refl
wider false b e = e

pub grows_instr : (d : Draft) (i : Instr) → IsDraft d → Follows d i.op i → Grows d (with_instr d i)
grows_instr d i is f = record {
  is = record {
    fine = All-push (IsFine d.slots d.words (length d.ports) (length d.wides)) d.instrs i is.fine f.fine;
    single = single_last nothing d.ports d.wides d.instrs i is.single f.reads f.new;
    below = λ k e. ⊎_elim (λ h. f.within k h) (λ h. is.below k h) (either (among (writes_of d.wides i) k) (written_in d k) (sym (written_last nothing d.wides d.instrs i k) ∙ e));
    ports = is.ports;
    wides = is.wides;
  };
  words = refl;
  slots = omega arith;
  stays = λ k e. written_last nothing d.wides d.instrs i k ∙ wider (among (writes_of d.wides i) k) (written_in d k) e;
  back = λ words inputs F s. record { long = s.long; plain = s.plain; each = all_front (Solves d.wides words inputs F) d.instrs i s.each };
  quiet = λ F. quiet_last d.ports d.instrs i F (f.quiet F);
}

-- More slots

locations_more : (n m : ℕ) (ss : List Location) → n ≤ m → All (IsLocation n) ss → All (IsLocation m) ss
locations_more n m ss le a = λ k s lt. location_more n m (get_or ss k s) le (a k s lt)

wide_more : (n m words : ℕ) (w : Wide) → n ≤ m → IsWide n words w → IsWide m words w
wide_more n m words w le h = record { operands = locations_more n m w.operands le h.operands; target = location_more n m w.target le h.target; shaped = h.shaped; region = h.region }

port_more : (n m words : ℕ) (p : Port) → n ≤ m → IsPort n words p → IsPort m words p
port_more n m words p le h = record { conditions = locations_more n m p.conditions le h.conditions; address = location_more n m p.address le h.address; source = location_more n m p.source le h.source; region = h.region }

pub grows_slots : (d : Draft) (n : ℕ) → IsDraft d → Grows d (with_slots d n)
grows_slots d n is =
    let le : d.slots ≤ d.slots + n = omega arith in
    record {
      is = record {
        fine = λ k i lt. fine_more (get_or d.instrs k i).op d.slots (d.slots + n) d.words (length d.ports) (length d.ports) (length d.wides) (length d.wides) (get_or d.instrs k i) le (omega arith) (omega arith) (is.fine k i lt);
        single = is.single;
        below = λ k e. let h = is.below k e in omega (arith, h);
        ports = λ k p lt. port_more d.slots (d.slots + n) d.words (get_or d.ports k p) le (is.ports k p lt);
        wides = λ k w lt. wide_more d.slots (d.slots + n) d.words (get_or d.wides k w) le (is.wides k w lt);
      };
      words = refl;
      slots = le;
      stays = λ k e. e;
      back = λ words inputs F s. let h = s.long in record { long = omega (arith, h); plain = s.plain; each = s.each };
      quiet = λ F. refl;
    }

-- One step after the other

pub grows_then : (a b c : Draft) → Grows a b → Grows b c → Grows a c
grows_then a b c g h =
    let first = g.slots in
    let second = h.slots in
    record {
      is = h.is;
      words = h.words ∙ g.words;
      slots = omega (arith, first, second);
      stays = λ k e. h.stays k (g.stays k e);
      back = λ words inputs F s. g.back words inputs F (h.back words inputs F s);
      quiet = λ F. h.quiet F ∙ g.quiet F;
    }

pub grows_not : (a : Draft) → IsDraft a → Grows a a
grows_not a is = record { is = is; words = refl; slots = omega arith; stays = λ k e. e; back = λ words inputs F s. s; quiet = λ F. refl }

pub stands_on : (a b : Draft) (s : Location) → Grows a b → Stands a s → Stands b s
stands_on a b s g h = record { within = location_more a.slots b.slots s g.slots h.within; written = λ k d lt. g.stays (get_or (location_slots s) k d) (h.written k d lt) }

pub all_stand_on : (a b : Draft) (ss : List Location) → Grows a b → All (Stands a) ss → All (Stands b) ss
all_stand_on a b ss g h = λ k s lt. stands_on a b (get_or ss k s) g (h k s lt)

-- a slot that isn't there yet is not written
pub unwritten : (d : Draft) (k : ℕ) → IsDraft d → d.slots ≤ k → written_in d k ≡ false
unwritten d k is le = ⊎_elim (λ e. let h = is.below k e in absurd (omega (arith, h, le))) (λ e. e) (cases_Bool (written_in d k))

pub one_new : (known : Known) (k : ℕ) → known k ≡ false → AreNew known (k ∷ [])
one_new known k e zero d lt = e
one_new known k e (suc j) d lt = absurd (omega (arith, lt))

pub one_known : (known : Known) (k : ℕ) → known k ≡ true → AreKnown known (k ∷ [])
one_known known k e zero d lt = e
one_known known k e (suc j) d lt = absurd (omega (arith, lt))

pub two_new : (known : Known) (j k : ℕ) → known j ≡ false → known k ≡ false → AreNew known (j ∷ k ∷ [])
two_new known j k e f zero d lt = e
two_new known j k e f (suc zero) d lt = f
two_new known j k e f (suc (suc n)) d lt = absurd (omega (arith, lt))

pub two_known : (known : Known) (j k : ℕ) → known j ≡ true → known k ≡ true → AreKnown known (j ∷ k ∷ [])
two_known known j k e f zero d lt = e
two_known known j k e f (suc zero) d lt = f
two_known known j k e f (suc (suc n)) d lt = absurd (omega (arith, lt))

numbers_same : (a b : ℕ) → (a == b) ≡ true → a ≡ b
numbers_same a b e = grind (arith, common_steps)

pub one_among : (k j : ℕ) → among (j ∷ []) k ≡ true → k ≡ j
one_among k j e = ⊎_elim (λ h. numbers_same k j h) (λ h. absurd (false≢true h)) (either (k == j) false e)

pub two_among : (k i j : ℕ) → among (i ∷ j ∷ []) k ≡ true → (k ≡ i) ⊎ (k ≡ j)
two_among k i j e = ⊎_elim (λ h. inl (numbers_same k i h)) (λ h. inr (one_among k j h)) (either (k == i) (among (j ∷ []) k) e)

same_number : (k : ℕ) → (k == k) ≡ true
same_number k = grind (arith, common_steps)

pub written_here : (d : Draft) (i : Instr) (k : ℕ) → among (writes_of d.wides i) k ≡ true → written_in (with_instr d i) k ≡ true
written_here d i k e = written_last nothing d.wides d.instrs i k ∙ ap (λ b. b || written_in d k) e

pub among_first : (k : ℕ) (ks : List ℕ) → among (k ∷ ks) k ≡ true
among_first k ks = ap (λ b. b || among ks k) (same_number k)

pub among_second : (j k : ℕ) → among (j ∷ k ∷ []) k ≡ true
among_second j k = wider (k == j) (among (k ∷ []) k) (among_first k [])

same_not : (j k : ℕ) → (j ≡ k → ⊥) → (j == k) ≡ false
same_not j k h = ⊎_elim (λ e. absurd (h e)) (λ ne. grind (arith, common_steps, ne)) (cases_eq j k)

pub other : (j k : ℕ) → (j ≡ k → ⊥) → among (k ∷ []) j ≡ false
other j k h = ap (λ b. b || false) (same_not j k h)

pub still : (d : Draft) (i : Instr) (k : ℕ) → among (writes_of d.wides i) k ≡ false → written_in d k ≡ false → written_in (with_instr d i) k ≡ false
still d i k e f = written_last nothing d.wides d.instrs i k ∙ ap₂ (λ a b. a || b) e f
