-- The sinks of a part, one after the other.
use Rattle.std.proofs.Common.{◌≡◌, ℕ, ◌+◌, ◌<◌, List, [], ◌∷◌, map, take, length, slice_get, slice_index, Some, option_map, sym, subst, ap, ◌∙◌, arith}
use Rattle.std.specs.Prelude.{Contains}
use Rattle.std.proofs.lemmas.List.{take_more, length-map}
use Rattle.std.proofs.lemmas.List.Elements.{Contains-get_or}
use Rattle.std.proofs.lemmas.Option.{slice_get-map}
use Rattle.ground_net.specs.declared.net.Net.{Net}
use Rattle.ground_net.specs.declared.net.CutPart.{CutPart}
use Rattle.ground_net.specs.Cones.{Sink, A_memory, sinks, InCone}
use Rattle.cone_cutter.specs.declared.sinks.SinkAt.{SinkAt}
use Rattle.cone_cutter.specs.Rows.{sink_of}
use Rattle.code_draft.specs.declared.draft.Draft.{Draft}
use Rattle.code_draft.specs.declared.sources.Sources.{Sources}
use Rattle.code_emit.specs.Emits.{sources_table}
use Rattle.code_memories.specs.Telling.{TellsSinks}
use Rattle.part_compile.proofs.InTurn.{knows_for}
use Rattle.part_compile.specs.declared.work.Made.{Made}
use Rattle.part_compile.specs.PartRows.{IsWork, IsReady, Adds, SoFar}
use Rattle.part_compile.proofs.Making.{one_so_far}
use Rattle.part_compile.specs.Rows.{KnowsCone}

-- a memory under the same number
pub memory_tells : (net : Net) (S : Sources) (m n : ℕ) (old new : Draft) → n ≡ m → TellsSinks net S (A_memory n ∷ []) old new → TellsSinks net S (A_memory m ∷ []) old new
memory_tells net S m n old new same t = subst (λ j. TellsSinks net S (A_memory j ∷ []) old new) same t

-- the sink of a number
pub sink_there : (net : Net) (watch : List ℕ) (found : List SinkAt) (k : ℕ) (s : SinkAt) → map sink_of found ≡ sinks net watch → slice_get found k ≡ Some s → slice_get (sinks net watch) k ≡ Some (sink_of s)
sink_there net watch found k s all at = ap (λ l. slice_get l k) (sym all) ∙ (slice_get-map sink_of found k ∙ ap (option_map sink_of) at)

pub number_within : (net : Net) (watch : List ℕ) (found : List SinkAt) (k : ℕ) → map sink_of found ≡ sinks net watch → k < length (sinks net watch) → k < length found
number_within net watch found k all lt =
    let long = length-map found sink_of in
    let same = ap length all in
    omega (arith, long, same, lt)

pub part_has : (part : CutPart) (xs : List ℕ) (i : ℕ) → xs ≡ part.sinks → i < length xs → Contains part.sinks (slice_index xs i)
part_has part xs i same lt = subst (λ l. Contains l (slice_index xs i)) same (Contains-get_or xs i 0 lt)

-- the cone of a part's sink is known
pub cone_known : (net : Net) (watch : List ℕ) (part : CutPart) (S : Sources) (k : ℕ) (sink : Sink) → IsWork net watch part S → Contains part.sinks k → slice_get (sinks net watch) k ≡ Some sink → KnowsCone net sink S
cone_known net watch part S k sink work c there = knows_for net (Contains part.assignments) (InCone net sink) (sources_table S) (λ x inside. work.needed k x sink c there inside) work.known

-- what is made so far is in order
pub ready_so_far : (net : Net) (watch : List ℕ) (S : Sources) (start : Draft) (numbers : List ℕ) (made : Made) → IsReady net S start → SoFar net watch S start numbers made → IsReady net S made.draft
ready_so_far net watch S start numbers made ready so = (so.tells.is, so.tells.are, so.tells.words ∙ ready.2)

pub sinks_more : (net : Net) (watch : List ℕ) (S : Sources) (start : Draft) (numbers xs : List ℕ) (i : ℕ) (sink : Sink) (old new : Made) → xs ≡ numbers → i < length xs → slice_get (sinks net watch) (slice_index xs i) ≡ Some sink
    → SoFar net watch S start (take i numbers) old → Adds net watch S (slice_index xs i) sink old new → SoFar net watch S start (take (i + 1) numbers) new
sinks_more net watch S start numbers xs i sink old new same lt there so adds =
    subst (λ ks. SoFar net watch S start ks new) (sym (take_more xs i 0 lt) ∙ ap (take (i + 1)) same)
    (one_so_far net watch S start (take i xs) (slice_index xs i) sink old new there (subst (λ ks. SoFar net watch S start (take i ks) old) (sym same) so) adds)
