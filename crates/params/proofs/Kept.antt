-- What follows for a proposal and its code where rules are kept.
use Rattle.std.proofs.Common.{◌≡◌, ℕ, ◌-◌, ◌≤◌, ◌++◌, length, get_or, replicate, ap, arith}
use Rattle.std.proofs.lemmas.List.{get_or_append_left}
use Rattle.params.specs.Checks.{LengthsFit, symbol_count}
use Rattle.params.specs.Limits.{most_checks, most_n}
use Rattle.params.specs.Rules.{CodeFits, Judged, Keeps, KeepsBelow, KeepsRules, proposed_lengths, shape_of}
use Rattle.params.specs.declared.shape.Shape.{Shape}
use Rattle.params.specs.Proposed.{LentProposal}
use Rattle.params.specs.declared.proposal.Rule.TheVariants.{RingSize, Weight, Exponents, Balance, Payload, Flips, Lengths, BlockMark, SymbolCount}

-- lengths that fit as they are proposed fit in the table
pub table_fits : (p : LentProposal) → Keeps Lengths p → LengthsFit (shape_of p)
table_fits p (count, fit) j h =
    let ls = proposed_lengths p in
    let e : get_or (ls ++ replicate (most_checks - length ls) 0) j 0 ≡ get_or ls j 0 = get_or_append_left ls (replicate (most_checks - length ls) 0) 0 j (omega arith) in
    let f = fit j (omega arith) in
    (omega (arith, f.0), omega (arith, f.1))

-- six rules and the last three are all
pub all_rules : (p : LentProposal) → KeepsBelow 7 p → Keeps Lengths p → Keeps BlockMark p → Keeps SymbolCount p → KeepsRules p
all_rules p six lengths mark count RingSize = six RingSize (omega arith)
all_rules p six lengths mark count Weight = six Weight (omega arith)
all_rules p six lengths mark count Exponents = six Exponents (omega arith)
all_rules p six lengths mark count Balance = six Balance (omega arith)
all_rules p six lengths mark count Payload = six Payload (omega arith)
all_rules p six lengths mark count Flips = six Flips (omega arith)
all_rules p six lengths mark count Lengths = lengths
all_rules p six lengths mark count BlockMark = mark
all_rules p six lengths mark count SymbolCount = count

-- the code of a proposal that keeps the rules on codes
pub proposed_fits : (p : LentProposal) → KeepsBelow 7 p → Keeps Lengths p → Keeps BlockMark p → CodeFits (shape_of p)
proposed_fits p six lengths mark =
    let payload = six Payload (omega arith) in
    record {
      low = payload.0;
      high = payload.1;
      bytes = payload.2;
      few = six Flips (omega arith);
      lengths = table_fits p lengths;
      mark = mark;
    }

-- a symbol count within n is within the largest n
pub count_short : (p : LentProposal) (s : Shape) (mu : ℕ) → Judged p s mu → mu ≤ most_n
count_short p s mu j = omega (arith, j.count, ap symbol_count j.same, j.rules SymbolCount, (j.rules RingSize).1)
