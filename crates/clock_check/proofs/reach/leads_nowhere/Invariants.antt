use Rattle.std.proofs.Common.{◌≡◌, ℕ, [], map, take}
use Rattle.std.specs.Prelude.{IsTrue}
use Rattle.fir_meaning.specs.Mentions.{Scope, follow_all, suffix_onward}
use Rattle.clock_check.proofs.reach.leads_nowhere.Given as goal

abbrev pub invariant-loop-suffix : goal.invariant-loop-suffix
invariant-loop-suffix l = (types : Scope) (id : ℕ) → types id ≡ l.fn.whole.typ.now
    → ((follow_all types id (map suffix_onward (take l.suffix-index l.suffixes))).typ ≡ l.found.typ.now) × (IsTrue l.nowhere → (follow_all types id (map suffix_onward (take l.suffix-index l.suffixes))).ways ≡ [])
