-- The positions of the codes of one cut: each place of the watch list is of one output of one code.
use Rattle.std.proofs.Common.{◌≡◌, ℕ, suc, ◌+◌, ◌<◌, ◌≤◌, List, map, length, slice_get, nat_lt, Some, sym, subst, ◌∙◌, arith}
use Rattle.std.specs.Prelude.{Contains}
use Rattle.std.specs.List.{flat_map, range_with_len}
use Rattle.std.proofs.lemmas.Bool.{ltb-true, lt-ltb}
use Rattle.std.proofs.lemmas.List.{length-map, length-append}
use Rattle.ground_net.specs.declared.net.Net.{Net}
use Rattle.ground_net.specs.declared.net.CutPart.{CutPart}
use Rattle.ground_net.specs.Cones.{A_watched, sinks, sinks_at}
use Rattle.flat_code.specs.declared.code.Code.{Code}
use Rattle.cone_cutter.specs.Splits.{Rises}
use Rattle.cone_cutter.proofs.Lists.{filter_from, filter_to, pairs_filter}
use Rattle.partition_code.specs.Codes.{AreOfOneCut}
use Rattle.partition_code.proofs.Owners.{beside}

-- the watched leaves are sinks
watched_few : (net : Net) (watch : List ℕ) → length watch ≤ length (sinks net watch)
watched_few net watch =
    let all = length-append (map (λ x. A_watched x) watch) (flat_map (sinks_at net) (range_with_len 0 (suc (length net.leaves)))) in
    let some = length-map watch (λ x. A_watched x) in
    plain (length watch) (length (map (λ x. A_watched x) watch)) (length (flat_map (sinks_at net) (range_with_len 0 (suc (length net.leaves))))) (length (sinks net watch)) some all
  where
    plain : (w m r s : ℕ) → m ≡ w → s ≡ m + r → w ≤ s
    plain w m r s e f = omega (arith, e, f)

module _ (codes : List Code) (cut : AreOfOneCut codes) where
  module _ (k : ℕ) (code : Code) (e : slice_get codes k ≡ Some code) where
    -- a position of a code is that of a sink of its part
    pub position : (x : ℕ) → Contains code.positions x → (part : CutPart) × (slice_get cut.parts k ≡ Some part) × Contains part.sinks x × (x < length cut.watch)
    position x c =
        let part = beside codes cut.parts k code (sym cut.codes_of.counted) e in
        let it = cut.codes_of.each k part.0 code part.1 e in
        let f = filter_from (λ n. nat_lt n (length cut.watch)) part.0.sinks x (subst (λ l. Contains l x) it.positions c) in
        (part.0, part.1, f.0, ltb-true x (length cut.watch) f.1)

    pub position_below : (x : ℕ) → Contains code.positions x → x < length cut.watch
    position_below x c = let h = position x c in h.3

    pub positions_rise : Rises code.positions
    positions_rise =
        let part = beside codes cut.parts k code (sym cut.codes_of.counted) e in
        let it = cut.codes_of.each k part.0 code part.1 e in
        subst Rises (sym it.positions) (pairs_filter (λ a b. a < b) (λ n. nat_lt n (length cut.watch)) part.0.sinks (cut.split.unions k part.0 part.1).rises)

  -- each place is of a code
  pub place : (x : ℕ) → x < length cut.watch → (k : ℕ) × (code : Code) × (slice_get codes k ≡ Some code) × Contains code.positions x
  place x lt =
      let few = watched_few cut.ordered.net cut.watch in
      let once = cut.split.once x (within x (length cut.watch) (length (sinks cut.ordered.net cut.watch)) lt few) in
      let code = beside cut.parts codes once.number once.part cut.codes_of.counted once.there in
      let it = cut.codes_of.each once.number once.part code.0 once.there code.1 in
      (once.number, code.0, code.1, subst (λ l. Contains l x) (sym it.positions) (filter_to (λ n. nat_lt n (length cut.watch)) once.part.sinks x once.here (lt-ltb x (length cut.watch) lt)))
    where
      within : (x w s : ℕ) → x < w → w ≤ s → x < s
      within x w s lt le = omega (arith, lt, le)

  -- and of one alone
  pub one_code : (x j k : ℕ) (c d : Code) → slice_get codes j ≡ Some c → slice_get codes k ≡ Some d → Contains c.positions x → Contains d.positions x → j ≡ k
  one_code x j k c d e f a b =
      let p = position j c e x a in
      let q = position k d f x b in
      let few = watched_few cut.ordered.net cut.watch in
      let once = cut.split.once x (within x (length cut.watch) (length (sinks cut.ordered.net cut.watch)) p.3 few) in
      once.alone j p.0 p.1 p.2 ∙ sym (once.alone k q.0 q.1 q.2)
    where
      within : (x w s : ℕ) → x < w → w ≤ s → x < s
      within x w s lt le = omega (arith, lt, le)
