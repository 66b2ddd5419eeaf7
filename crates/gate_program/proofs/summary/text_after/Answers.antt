use Rattle.std.proofs.Common.{ℕ, map, arith, sym, subst}
use Rattle.std.proofs.lemmas.List.{length-map}
use Rattle.gate_program.specs.Totals.{HaveTotals}
use Rattle.gate_program.proofs.summary.text_after.Goals as goal

pub compare_trees-requires-after_bounds : goal.compare_trees-requires-after_bounds
compare_trees-requires-after_bounds g c κs within =
    let many = length-map c.args.journal.acts.items (λ own. own.items) in
    record {
      few = omega (arith, many, c.requires.few);
      legal = c.requires.legal;
      totals = subst (λ (n : ℕ). HaveTotals n (map (λ own. own.items) c.args.journal.lines.items))
          (sym many) c.requires.lines;
    }
