-- What the parts of a split leave at a word is what the word's sink leaves there.
use Rattle.std.proofs.Common.{◌≡◌, ◌≢◌, ℕ, ◌<◌, List, map, length, slice_get, slice_index, Some, sym, subst, ap, ◌∙◌}
use Rattle.std.specs.Prelude.{Contains}
use Rattle.std.specs.List.{filter_map}
use Rattle.std.proofs.lemmas.Option.{slice_get_within}
use Rattle.phase_core.specs.declared.model.Publication.{Publication}
use Rattle.phase_core.specs.Script.{published, published_all}
use Rattle.phase_core.proofs.Values.{length-published_all}
use Rattle.ground_net.specs.declared.net.Net.{Net}
use Rattle.ground_net.specs.declared.net.Ordered.{Ordered}
use Rattle.ground_net.specs.declared.net.CutPart.{CutPart}
use Rattle.ground_net.specs.Grounds.{Instant}
use Rattle.ground_net.specs.Cones.{Sink, sinks}
use Rattle.ground_net.specs.Cycles.{NetState}
use Rattle.ground_net.specs.Nets.{IsNet}
use Rattle.ground_net.specs.Words.{state_words}
use Rattle.partition_code.specs.Effects.{HasWord, sink_told, sinks_told}
use Rattle.cone_cutter.specs.Splits.{StandsOnce, IsSplit}
use Rattle.partition_code.proofs.Lists.{each_flat, item_at, among, from_filter_map, to_filter_map, distinct_rising}
use Rattle.partition_code.proofs.Apart.{one_sink}
use Rattle.partition_code.proofs.Standing.{stands_once, one_place, is_a_sink, each_word}
use Rattle.partition_code.proofs.Told.{told_own}
use Rattle.partition_code.proofs.Publishing.{Silent, only_one, all_as_one, once_kept, same_list}

module _ (ordered : Ordered) (w : IsNet ordered.net) (watch : List ℕ) (parts : List CutPart) (split : IsSplit ordered watch parts) (st : NetState) (instant : Instant) where
  abbrev TheSinks : CutPart → List Sink
  TheSinks part = filter_map (slice_get (sinks ordered.net watch)) part.sinks

  abbrev Told : CutPart → List Publication
  Told part = sinks_told ordered.net st instant (TheSinks part)

  module _ (i : ℕ) (s : Sink) (has : HasWord ordered.net s i) (q : ℕ) (at : slice_get (sinks ordered.net watch) q ≡ Some s) (once : StandsOnce parts q) where
    -- another part tells nothing of the word
    other_part : (j : ℕ) (part : CutPart) → slice_get parts j ≡ Some part → j ≢ once.number → Silent i (Told part)
    other_part j part e n = each_flat (λ (p : Publication). p.word ≢ i) (sink_told ordered.net st instant) (TheSinks part)
        (λ k y f m p g same.
        let own = told_own ordered.net st instant y m p g in
        let r = from_filter_map (slice_get (sinks ordered.net watch)) part.sinks y (among (TheSinks part) k y f) in
        let place = one_place ordered.net watch q r.0 i s y at r.2 has (subst (HasWord ordered.net y) same own.has) in
        n (once.alone j part e (subst (Contains part.sinks) (sym place) r.1)))

    -- nor does another sink of the part
    other_sink : (k : ℕ) → slice_get (TheSinks once.part) k ≡ Some s → (j : ℕ) (y : Sink) → slice_get (TheSinks once.part) j ≡ Some y → j ≢ k → Silent i (sink_told ordered.net st instant y)
    other_sink k here j y f n m p g same =
        let own = told_own ordered.net st instant y m p g in
        let is = one_sink ordered.net s y i has (subst (HasWord ordered.net y) same own.has) in
        n (once_kept (slice_get (sinks ordered.net watch)) once.part.sinks s (distinct_rising once.part.sinks (split.unions once.number once.part once.there).rises)
        (λ a b e h. stands_once ordered.net watch a b i s has e h) j k (f ∙ ap Some (sym is)) here)

    left_at : (ws : List ℕ) → slice_index (published_all (map Told parts) ws) i ≡ slice_index (published (sink_told ordered.net st instant s) ws) i
    left_at ws =
        let here = item_at (TheSinks once.part) s (to_filter_map (slice_get (sinks ordered.net watch)) once.part.sinks q s once.here at) in
        ap (λ l. slice_index l i) (all_as_one Told parts ws)
        ∙ (only_one Told i parts once.number once.part once.there other_part ws
        ∙ only_one (sink_told ordered.net st instant) i (TheSinks once.part) here.0 s here.1 (other_sink here.0 here.1) ws)

  pub left_by_sink : (i : ℕ) (s : Sink) → HasWord ordered.net s i → (ws : List ℕ) → slice_index (published_all (map Told parts) ws) i ≡ slice_index (published (sink_told ordered.net st instant s) ws) i
  left_by_sink i s has ws =
      let at = item_at (sinks ordered.net watch) s (is_a_sink ordered.net w watch s i has) in
      left_at i s has at.0 at.1 (split.once at.0 (slice_get_within (sinks ordered.net watch) at.0 s at.1)) ws

-- so any two splits leave the same words
pub same_words : (ordered : Ordered) (w : IsNet ordered.net) (watch seen : List ℕ) (parts others : List CutPart) → IsSplit ordered watch parts → IsSplit ordered seen others → (st : NetState) (instant : Instant) (ws : List ℕ)
    → length ws ≡ state_words ordered.net
    → published_all (map (λ part. sinks_told ordered.net st instant (filter_map (slice_get (sinks ordered.net watch)) part.sinks)) parts) ws
    ≡ published_all (map (λ part. sinks_told ordered.net st instant (filter_map (slice_get (sinks ordered.net seen)) part.sinks)) others) ws
same_words ordered w watch seen parts others split other st instant ws counted =
    let a = map (λ part. sinks_told ordered.net st instant (filter_map (slice_get (sinks ordered.net watch)) part.sinks)) parts in
    let b = map (λ part. sinks_told ordered.net st instant (filter_map (slice_get (sinks ordered.net seen)) part.sinks)) others in
    same_list (published_all a ws) (published_all b ws) (length-published_all a ws ∙ sym (length-published_all b ws))
    (λ i lt.
    let h = each_word ordered.net w watch i (subst (λ n. i < n) (length-published_all a ws ∙ counted) lt) in
    left_by_sink ordered w watch parts split st instant i h.0 h.2 ws ∙ sym (left_by_sink ordered w seen others other st instant i h.0 h.2 ws))
