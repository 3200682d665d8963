-- The effects of a code are those of the frame that its run leaves.
use Rattle.std.proofs.Common.{◌≡◌, ℕ, List, length, replicate, ap, ap₂, ◌∙◌, arith}
use lib.ListN.{length-replicate}
use Rattle.flat_code.specs.declared.code.Code.{Code}
use Rattle.flat_code.specs.declared.instr.Location.{Location}
use Rattle.flat_code.specs.Meaning.{ran, published, changed, location_values}
use Rattle.flat_code.specs.Codes.{zeros}
use Rattle.flat_code.specs.Fine.{nothing}
use Rattle.flat_code.proofs.Solving.{late}
use Rattle.flat_code.proofs.Changing.{changed_none}
use Rattle.code_draft.specs.declared.draft.Draft.{Draft}
use Rattle.code_draft.specs.Drafts.{IsDraft}
use Rattle.code_draft.proofs.Running.{run_solves}
use Rattle.code_draft.specs.Finishing.{IsCodeOf}

pub has_effects : (code : Code) (d : Draft) (shown : List Location) → IsDraft d → code.instrs ≡ d.instrs → code.ports ≡ d.ports → code.wides ≡ d.wides → code.shown ≡ shown → code.slots ≡ d.slots → code.once ≡ 0 → IsCodeOf code d shown
has_effects code d shown is instrs ports wides locations slots once = λ words inputs plain.
    let f = replicate d.slots 0 in
    let F = ran d.wides d.instrs words inputs f in
    let long : length {A = ℕ} f ≡ d.slots = length-replicate d.slots 0 in
    let same_frame : ran code.wides code.instrs words inputs (zeros code) ≡ F
    = ap₂ (λ ws js. ran ws js words inputs (replicate code.slots 0)) wides instrs ∙ ap (λ n. ran d.wides d.instrs words inputs (replicate n 0)) slots in
    let told : published code.ports code.wides code.instrs words inputs (zeros code) ≡ published d.ports d.wides d.instrs words inputs f
    = ap (λ ps. published ps code.wides code.instrs words inputs (zeros code)) ports
    ∙ (ap₂ (λ ws js. published d.ports ws js words inputs (replicate code.slots 0)) wides instrs ∙ ap (λ n. published d.ports d.wides d.instrs words inputs (replicate n 0)) slots) in
    record {
      frame = F;
      solved = run_solves d words inputs f is (omega (arith, long)) plain;
      publications = ap (λ n. changed n words (published code.ports code.wides code.instrs words inputs (zeros code))) once
          ∙ changed_none words (published code.ports code.wides code.instrs words inputs (zeros code)) ∙ told ∙ late d.ports d.wides words inputs d.slots d.words (length d.ports) (length d.wides) is.wides d.instrs nothing f is.single;
      outputs = ap₂ (λ G ss. location_values G ss) same_frame locations;
    }
