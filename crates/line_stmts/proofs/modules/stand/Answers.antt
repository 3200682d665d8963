use Rattle.std.proofs.Common.{refl, ◌∙◌}
use Rattle.line_stmts.proofs.Standing.{one_more}
use Rattle.line_stmts.proofs.modules.stand.Goals as goal

pub loop-module-preserved : goal.loop-module-preserved
loop-module-preserved c = one_more c.loop-module.yielded c.in-Some.module c.args.names c.loop-module.maker
    (record { names = c.loop-module.maker.names; «module» = c.in-Ok.number; places = c.loop-module.maker.places; prints = c.loop-module.maker.prints }) c.stand_module.new.maker
    c.loop-module.modules c.push.new.self c.in_ok-stand_module.field-0 c.loop-module.invariant refl refl (c.in-Ok.ensures.1 ∙ c.len.ensures) c.in_ok-stand_module.ensures c.in_ok-push.ensures.ok
