use Rattle.std.proofs.Common.{◌≡◌, map, take}
use Rattle.std.specs.List.{flat_map}
use Rattle.width_fit.specs.Surveys.{kept, all_surveys, index_surveys, AddsAll}
use Rattle.width_fit.proofs.survey.+survey.Given as goal

abbrev pub invariant-survey_all-loop-expr : goal.invariant-survey_all-loop-expr
invariant-survey_all-loop-expr l = record {
  are : l.all.items ≡ map (kept l.widths) (all_surveys l.widths l.known.entries (take l.expr-index l.exprs));
  found : AddsAll (all_surveys l.widths l.known.entries (take l.expr-index l.exprs)) l.fn.found l.found;
}

abbrev pub invariant-survey_indexes-loop-suffix : goal.invariant-survey_indexes-loop-suffix
invariant-survey_indexes-loop-suffix l = AddsAll (flat_map (index_surveys l.widths l.known.entries) (take l.suffix-index l.suffixes)) l.fn.found l.found
