use Rattle.std.proofs.Common.{◌∙◌, ap, sym}
use Rattle.std.specs.Option.{option_copied}
use Rattle.clock_check.specs.Searched.{listed_in}
use Rattle.clock_check.proofs.Searching.{looked_up}
use Rattle.clock_check.proofs.search.FlatSinks.of.Goals as goal

pub returns-in-Some : goal.returns-in-Some
returns-in-Some c =
    c.as_slice.ensures.value ∙ ap listed_in (sym (ap option_copied c.in-Some.is) ∙ c.get.ensures.value) ∙ looked_up c.args.self.now.sinks.entries c.args.key.now

pub returns-in-None : goal.returns-in-None
returns-in-None c = ap listed_in (sym (ap option_copied c.in-None.is) ∙ c.get.ensures.value) ∙ looked_up c.args.self.now.sinks.entries c.args.key.now
