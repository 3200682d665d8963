-- Code that goes on from other code: which slots it reads and writes, and how many slots of its own are live at once.
use Rattle.std.specs.Prelude.{◌≡◌, ℕ, ◌<◌, ◌≤◌, ◌||◌, ◌&&◌, true, ◌⊎◌, List, [], ◌∷◌, ◌++◌, length, All}
use Rattle.flat_code.specs.declared.instr.Instr.{Instr}
use Rattle.flat_code.specs.declared.instr.Port.{Port}
use Rattle.flat_code.specs.declared.instr.Wide.{Wide}
use Rattle.flat_code.specs.Fine.{Known, among, more, nothing, reads_of, writes_of}
use Rattle.code_draft.specs.declared.draft.Draft.{Draft}

-- whether one of these instructions reads a slot, or it is read behind them
abbrev pub is_read : List Port → List Wide → Known → List Instr → Known
is_read ports wides after [] k = after k
is_read ports wides after (i ∷ is) k = among (reads_of ports wides i) k || is_read ports wides after is k

-- A slot is live behind an instruction: the instruction writes it, or it was written before and is read behind it.
abbrev pub is_live : Known → List Port → List Wide → Known → Instr → List Instr → Known
is_live known ports wides after i is k = among (writes_of wides i) k || (known k && is_read ports wides after is k)

-- At most n slots from this one on are such.
pub record AtMost (n first : ℕ) (such : Known) : Type 0 where
  pub slots : List ℕ
  pub few : length slots ≤ n
  pub all : (k : ℕ) → first ≤ k → such k ≡ true → among slots k ≡ true

-- Behind each of these instructions at most n slots from this one on are live.
abbrev pub FewLive : ℕ → ℕ → Known → List Port → List Wide → Known → List Instr → Type 0
FewLive n first known ports wides after [] = Unit {0}
FewLive n first known ports wides after (i ∷ is) = AtMost n first (is_live known ports wides after i is) × FewLive n first (more (writes_of wides i) known) ports wides after is

-- A draft's tables, with more behind them.
pub record GoesOn (d : Draft) (ports : List Port) (wides : List Wide) : Type 0 where
  pub further_ports : List Port
  pub further_wides : List Wide
  pub ports_on : ports ≡ d.ports ++ further_ports
  pub wides_on : wides ≡ d.wides ++ further_wides

-- Instructions of which each writes slots of their own only, from the first one on and before the last one. Of the slots below these they read outer ones
-- only. Where of their own slots only kept ones are read behind them, at most n of these are live behind each of them.
pub record Stretch (first last : ℕ) (outer kept : List ℕ) (n : ℕ) (ports : List Port) (wides : List Wide) (is : List Instr) : Type 0 where
  pub reads : All (λ i. (k : ℕ) → k < first → among (reads_of ports wides i) k ≡ true → among outer k ≡ true) is
  pub writes : All (λ i. (k : ℕ) → among (writes_of wides i) k ≡ true → (first ≤ k) × (k < last)) is
  pub few : (after : Known) → ((k : ℕ) → first ≤ k → k < last → after k ≡ true → among kept k ≡ true) → FewLive n first nothing ports wides after is

-- What a draft has more than an older one is such instructions, over every tables that go on from its own. The kept slots are own or outer ones, and at
-- most n.
pub record Segment (old new : Draft) (outer kept : List ℕ) (n : ℕ) : Type 0 where
  pub instrs : List Instr
  pub is : new.instrs ≡ old.instrs ++ instrs
  pub tables : GoesOn old new.ports new.wides
  pub slots : old.slots ≤ new.slots
  pub each : (ports : List Port) (wides : List Wide) → GoesOn new ports wides → Stretch old.slots new.slots outer kept n ports wides instrs
  pub there : (k : ℕ) → among kept k ≡ true → ((old.slots ≤ k) × (k < new.slots)) ⊎ (among outer k ≡ true)
  pub few : length kept ≤ n

-- the instructions behind the first one
abbrev pub behind_first : List Instr → List Instr
behind_first [] = []
behind_first (i ∷ is) = is

-- Only the first instruction reads slots of older code, and the kept slots are own ones where there is one.
pub record Step (old new : Draft) (outer kept : List ℕ) (n : ℕ) : Type 0 where
  pub segment : Segment old new outer kept n
  pub once : (ports : List Port) (wides : List Wide) → GoesOn new ports wides → All (λ i. (k : ℕ) → among (reads_of ports wides i) k ≡ true → old.slots ≤ k) (behind_first segment.instrs)
  pub fresh : (segment.instrs ≡ []) ⊎ ((k : ℕ) → among kept k ≡ true → old.slots ≤ k)
