-- What is made of a trace.
use Rattle.std.proofs.Common.{◌≡◌, ℕ, ◌<◌, List, [], ◌∷◌, length, Option, refl, sym, ◌∙◌, arith}
use Rattle.std.specs.Prelude.{Some}
use Rattle.shelf_io.specs.Outside.{Appends}
use Rattle.fir_tree.specs.LeafNames.{Texts}
use Rattle.fir_meaning.specs.Components.{Design}
use Rattle.stimulus.specs.declared.stimulus.Stimulus.{Stimulus}
use Rattle.circuit_run.specs.Traces.{IsTraceText}

-- a trace has its header
longer : (bytes rest : List ℕ) (x : ℕ) → bytes ≡ x ∷ rest → 0 < length bytes
longer bytes rest x e = rw e (omega arith)

pub trace_some : (texts : Texts) (design : Design) (stimulus : Stimulus) (bytes : List ℕ) → IsTraceText texts design stimulus bytes → 0 < length bytes
trace_some texts design stimulus bytes t = longer bytes _ 99 t.is

-- what was kept of a trace is the trace
pub kept_all : (old new : Option (List ℕ)) (bytes kept : List ℕ) → old ≡ Some [] → Appends old new bytes → new ≡ Some kept → kept ≡ bytes
kept_all old new bytes kept begun a told =
    let e : Some kept ≡ Some bytes = sym told ∙ (a ∙ rw begun refl) in cc
