use Rattle.std.proofs.Common.{map, max, arith, sym, ◌∙◌, inl, inr}
use Rattle.std.proofs.lemmas.List.{length-map}
use Rattle.std.proofs.lemmas.Bool.{false≢true}
use Rattle.fold_law.specs.Sum.{sum_of}
use Rattle.gate_program.proofs.Agreed.{WalkLaw, StayLaw, sums_can, halts_can, sums_yes, halts_yes}
use Rattle.gate_program.proofs.agreeing.compare_trees.Goals as goal

pub split_halt-requires : goal.split_halt-requires
split_halt-requires g c = omega (
  arith,
  c.in_ok-trees.ensures.many,
  c.requires.legal.count,
  length-map c.args.journal.lines.items (λ own. own.items),
)

pub trees_agree-requires-after_bounds : goal.trees_agree-requires-after_bounds
trees_agree-requires-after_bounds g c κs within =
    sums_can c.args.limits.now (map (λ own. own.items) c.args.journal.acts.items)
    (map (λ own. own.items) c.args.journal.lines.items) c.requires c.in_ok-trees.trees.items
    c.in_ok-sums.field-0.sums.items c.in_ok-sums.field-0.halts.items c.in_ok-trees.ensures.trees
    (c.in_ok-trees.ensures.many
    ∙ sym (length-map c.args.journal.lines.items (λ own. own.items)))
    c.in_ok-sums.ensures.all c.in_ok-sums.ensures.one
    c.len-sessions.result
    (omega (
      arith,
      c.len-sessions.ensures,
      length-map c.args.journal.acts.items (λ own. own.items),
    ))

pub trees_agree-requires-2-after_bounds : goal.trees_agree-requires-2-after_bounds
trees_agree-requires-2-after_bounds g c κs within =
    halts_can c.args.limits.now (map (λ own. own.items) c.args.journal.acts.items)
    (map (λ own. own.items) c.args.journal.lines.items) c.requires c.in_ok-trees.trees.items
    c.in_ok-sums.field-0.sums.items c.in_ok-sums.field-0.halts.items c.in_ok-trees.ensures.trees
    (c.in_ok-trees.ensures.many
    ∙ sym (length-map c.args.journal.lines.items (λ own. own.items)))
    c.in_ok-sums.ensures.all c.in_ok-sums.ensures.one
    c.len-sessions.result
    (omega (
      arith,
      c.len-sessions.ensures,
      length-map c.args.journal.acts.items (λ own. own.items),
    ))

pub unreachable-requires : goal.unreachable-requires
unreachable-requires g c =
    let sum_law : WalkLaw sum_of = record { walked = c.legal_reads_are_walked.ensures } in
    let halt_law : WalkLaw max = record { walked = c.legal_reads_are_walked-2.ensures } in
    let stay : StayLaw = record {
      same = c.staying_is_within.ensures;
      within = c.admitted_stays_within.ensures;
    } in
    elim c.else-sums_agree.either [
      | inl both ↦ false≢true (sym both.1 ∙ c.in_ok-halts_agree.ensures
          ∙ halts_yes c.args.limits.now (map (λ own. own.items) c.args.journal.acts.items)
          (map (λ own. own.items) c.args.journal.lines.items) c.requires c.in_ok-trees.trees.items
          c.in_ok-sums.field-0.sums.items c.in_ok-sums.field-0.halts.items c.in_ok-trees.ensures.trees
          (c.in_ok-trees.ensures.many
          ∙ sym (length-map c.args.journal.lines.items (λ own. own.items)))
          c.in_ok-sums.ensures.all c.in_ok-sums.ensures.one
          halt_law c.len-sessions.result
          (omega (
            arith,
            c.len-sessions.ensures,
            length-map c.args.journal.acts.items (λ own. own.items),
          )))
      | inr other ↦ false≢true (sym other ∙ c.in_ok-sums_agree.ensures
          ∙ sums_yes c.args.limits.now (map (λ own. own.items) c.args.journal.acts.items)
          (map (λ own. own.items) c.args.journal.lines.items) c.requires c.in_ok-trees.trees.items
          c.in_ok-sums.field-0.sums.items c.in_ok-sums.field-0.halts.items c.in_ok-trees.ensures.trees
          (c.in_ok-trees.ensures.many
          ∙ sym (length-map c.args.journal.lines.items (λ own. own.items)))
          c.in_ok-sums.ensures.all c.in_ok-sums.ensures.one
          sum_law stay c.len-sessions.result
          (omega (
            arith,
            c.len-sessions.ensures,
            length-map c.args.journal.acts.items (λ own. own.items),
          )))
    ]
