-- What is taken one behind the other is taken as a whole, and makes a rule where it is a case of it.
use Rattle.std.proofs.Common.{◌≡◌, ℕ, List, [], ◌∷◌, ◌++◌, ◌+◌, ◌-◌, ◌∙◌, refl, ap, arith, length, ◌≤◌}
use Rattle.fir_tree.specs.declared.fault.ParseFault.{ParseFault}
use Rattle.fir_grammar.specs.Grammar.{Symbol, A, Rule, IsCase, Values, tree}
use Rattle.fir_expr.specs.declared.reader.Reader.{Reader}
use Rattle.token_reader.proofs.Composition.{joined, read_nothing, read_then, refused_first, refused_behind, Enters, read_case, refused_case}
use Rattle.fir_parser.specs.Taking.{pieces, HasTaken, Refuses, Passes, StandsAt, blocks_at}

pub joins : {ss more : List Symbol} {a b c : Reader} {vs : Values ss} {ws : Values more} → HasTaken ss a b vs → HasTaken more b c ws → HasTaken (ss ++ more) a c (joined ss more vs ws)
joins p q = record {
  bytes = q.bytes ∙ p.bytes;
  laid = q.laid ∙ p.laid;
  major = q.major ∙ p.major;
  read = read_then p.read (rw (p.bytes, p.laid, p.major) at q.read);
}

pub first : {ss : List Symbol} (more : List Symbol) {a : Reader} {fault : ParseFault} → Refuses ss a fault → Refuses (ss ++ more) a fault
first more r = record { refused = refused_first more r.refused }

pub later : {ss more : List Symbol} {a b : Reader} {vs : Values ss} {fault : ParseFault} → HasTaken ss a b vs → Refuses more b fault → Refuses (ss ++ more) a fault
later p r = record { refused = refused_behind p.read (rw (p.bytes, p.laid) at r.refused) }

pub makes : {r : Rule} {body : List Symbol} {a b : Reader} {ws : Values body} (case : IsCase r body) → Enters (pieces a) a.at case → HasTaken body a b ws → HasTaken (A r ∷ []) a b (tree a.major case ws, tt)
makes case enters h = record { bytes = h.bytes; laid = h.laid; major = h.major; read = read_case case enters h.read }

pub breaks : {r : Rule} {body : List Symbol} {a : Reader} {fault : ParseFault} (case : IsCase r body) → Enters (pieces a) a.at case → Refuses body a fault → Refuses (A r ∷ []) a fault
breaks case enters h = record { refused = refused_case case enters h.refused }

-- no symbols take nothing
pub nothing_taken : (now : Reader) → now.at ≤ length now.laid.now → HasTaken [] now now tt
nothing_taken now within = record { bytes = refl; laid = refl; major = refl; read = read_nothing now.bytes.now now.laid.now now.at now.names within }

-- The same of symbols behind which a line may begin or go on.

pub joins_to : {ss more : List Symbol} {a b c : Reader} {m n : ℕ} {vs : Values ss} {ws : Values more} → Passes ss a b m vs → Passes more b c n ws → Passes (ss ++ more) a c n (joined ss more vs ws)
joins_to p q = record { taken = joins p.taken q.taken; at = q.at; blocks = q.blocks }

pub joins_on : {ss more : List Symbol} {a b c : Reader} {n : ℕ} {vs : Values ss} {ws : Values more} → Passes ss a b n vs → Passes more b c (blocks_at b) ws → Passes (ss ++ more) a c n (joined ss more vs ws)
joins_on p q = record { taken = joins p.taken q.taken; at = q.at; blocks = q.blocks ∙ p.blocks }

pub later_on : {ss more : List Symbol} {a b : Reader} {n : ℕ} {vs : Values ss} {fault : ParseFault} → Passes ss a b n vs → Refuses more b fault → Refuses (ss ++ more) a fault
later_on p r = later p.taken r

pub makes_on : {r : Rule} {body : List Symbol} {a b : Reader} {n : ℕ} {ws : Values body} (case : IsCase r body) → Enters (pieces a) a.at case → Passes body a b n ws → Passes (A r ∷ []) a b n (tree a.major case ws, tt)
makes_on case enters h = record { taken = makes case enters h.taken; at = h.at; blocks = h.blocks }

pub nothing_passed : (now : Reader) → StandsAt now → Passes [] now now (blocks_at now) tt
nothing_passed now at = record { taken = nothing_taken now at.within; at = at; blocks = refl }

-- a block that was opened in the last step and is read up to its end leaves as many open
pub closes_again : {ss more : List Symbol} {a b c : Reader} {n : ℕ} {vs : Values ss} {ws : Values more} → blocks_at a ≡ n → Passes ss a b (n + 1) vs → Passes more b c (blocks_at b - 1) ws
    → Passes (ss ++ more) a c (blocks_at a) (joined ss more vs ws)
closes_again counted p q = record { taken = joins p.taken q.taken; at = q.at; blocks = omega (arith, p.blocks, q.blocks, counted) }

-- what was read item by item up to here, and then the end of the block
pub ends_block : {ss more : List Symbol} {a b c : Reader} {vs : Values ss} {ws : Values more} → HasTaken ss a c vs → Passes more b c (blocks_at b - 1) ws → blocks_at b ≡ blocks_at a → Passes ss a c (blocks_at a - 1) vs
ends_block h q counted = record { taken = h; at = q.at; blocks = q.blocks ∙ ap (λ (m : ℕ). m - 1) counted }
