-- The last line is one.
use Rattle.std.proofs.Common.{◌≡◌, ◌≢◌, ℕ, suc, zero, ◌+◌, ◌-◌, ◌<◌, List, ◌++◌, ⊎_elim, inr, length, drop, refl, sym, ap, ◌∙◌, arith}
use Rattle.std.specs.Prelude.{Some, slice_get, codes, decimal}
use Rattle.std.specs.Fmt.{digits}
use native.Mathlib.Decide.{dec_le}
use Rattle.crew_run.specs.Summaries.{BeginsLine, IsInOneLine, IsLastLine, IsSummary}

-- no line begins behind the beginning of a last one
not_behind : (text : List ℕ) (at more : ℕ) → IsInOneLine text at → more < length text → BeginsLine text more → at < more → ⊥
not_behind text at more whole within begins lt =
    ⊎_elim (λ z. omega (arith, lt, z)) (λ (h : (0 < more) × (slice_get text (more - 1) ≡ Some 10)). whole (more - 1) (omega (arith, lt)) (omega (arith, lt, within)) h.1) begins

last_once : (text one other : List ℕ) → IsLastLine text one → IsLastLine text other → one ≡ other
last_once text one other p q =
    let same : p.at ≡ q.at = elim (dec_le p.at q.at) [
      | yes le ↦ elim (dec_le q.at p.at) [
        | yes ge ↦ omega (arith, le, ge)
        | no more ↦ absurd (not_behind text p.at q.at p.whole q.some q.begins (omega (arith, more)))
      ]
      | no less ↦ absurd (not_behind text q.at p.at q.whole p.some p.begins (omega (arith, less)))
    ] in p.is ∙ ap (λ k. drop k text) same ∙ sym q.is

pub summary_once : (trace one other : List ℕ) → IsSummary trace one → IsSummary trace other → one ≡ other
summary_once trace one other p q =
    p.is ∙ ap (λ line. codes "bytes " ++ decimal (length trace) ++ codes "\n" ++ line) (last_once trace p.line q.line p.last q.last) ∙ sym q.is

-- a trace of one cycle
none_in_line : (k j : ℕ) → k ≡ 8 + j → k + 1 < 12 → slice_get (codes "cycle o\n0 7\n") k ≢ Some 10
none_in_line k zero e lt = rw e (λ f. cc)
none_in_line k (suc zero) e lt = rw e (λ f. cc)
none_in_line k (suc (suc zero)) e lt = rw e (λ f. cc)
none_in_line k (suc (suc (suc j))) e lt = absurd (omega (arith, e, lt))

example_line : codes "bytes 12\n0 7\n" ≡ codes "bytes " ++ decimal 12 ++ codes "\n" ++ codes "0 7\n"
unfolding digits
example_line = refl

pub example : IsSummary (codes "cycle o\n0 7\n") (codes "bytes 12\n0 7\n")
example = record {
  line = codes "0 7\n";
  last = record {
    at = 8;
    some = omega arith;
    begins = inr (omega arith, refl);
    whole = λ k le lt. none_in_line k (k - 8) (omega (arith, le)) lt;
    is = refl;
  };
  is = example_line;
}
