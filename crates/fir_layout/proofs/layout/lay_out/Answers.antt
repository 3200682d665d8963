use Rattle.place_text.specs.Places.{place}
use Rattle.fir_layout.proofs.Layouts.{accepts_from, refuses_from}
use Rattle.fir_layout.proofs.Parts.{ok_tokens, ok_ends}
use Rattle.fir_layout.proofs.layout.lay_out.Goals as goal

pub returns-clause-accepts : goal.returns-clause-accepts
returns-clause-accepts c = accepts_from (λ v. v.items) (place c.args.bytes.now) c.args.bytes.now _ c.walk.ensures.ok c.walk.ensures.fault

pub returns-clause-refuses : goal.returns-clause-refuses
returns-clause-refuses c = refuses_from (λ v. v.items) (place c.args.bytes.now) c.args.bytes.now _ c.walk.ensures.ok c.walk.ensures.fault

pub returns-clause-items : goal.returns-clause-items
returns-clause-items c = ok_tokens (λ v. v.items) c.args.bytes.now c.args.tokens.now _ c.requires.lexed c.walk.ensures.ok

pub returns-clause-ends : goal.returns-clause-ends
returns-clause-ends c = ok_ends (λ v. v.items) c.args.bytes.now _ c.walk.ensures.ok
