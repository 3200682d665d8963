use Rattle.fir_parser.proofs.symbols.fault_here.Goals as goal

pub refusal_here-requires : goal.refusal_here-requires
refusal_here-requires c = record { short = c.requires.short; laid = c.requires.laid }

pub returns : goal.returns
returns c = record { refused = λ s none keeps. (c.refusal_here.ensures s (λ l stands takes. none (record { laid = l; stands = stands; takes = takes }))).refused keeps }
