use Rattle.std.proofs.Common.{refl}
use Rattle.line_stmts.proofs.Standing.{module_stood}
use Rattle.line_stmts.proofs.modules.stand_module.Goals as goal

pub returns : goal.returns
returns c = module_stood c.args.maker.now (record { names = c.args.maker.now.names; «module» = c.args.maker.now.module; places = c.new.result; prints = c.args.maker.now.prints })
    c.statements_of.new.maker _ c.args.lines c.in_ok-statements.statements c.in_ok-body.body c.append.new.made c.replace-places.result c.requires refl refl c.new.ensures refl c.in_ok-statements.ensures
    c.replace-places.ensures.value (rw c.as_slice.ensures at c.in_ok-body.ensures) refl c.in_ok-append.ensures
