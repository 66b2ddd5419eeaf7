use Rattle.std.proofs.Common.{get_or, map, ap, ◌∙◌, refl}
use Rattle.trail_replay.specs.Reads.{row_of, unread}
use Rattle.trail_replay.proofs.Descending.{rows_seen, left_span, right_span}
use Rattle.trail_replay.proofs.descent.spans_below.Goals as goal

pub returns : goal.returns
returns c =
    let taken = c.args.prepared.now in
    let tree = c.args.tree in
    let node = c.args.node in
    let rows = rows_seen _ _ _ _ c.prepared.view_is c.prepared.invariant in
    let row = λ (r : _). row_of (map (λ (nodes : _). map (λ (own : _). own.items) nodes.items) r)
    tree node in
    let early = c.stamps_at-before.ensures
    ∙ ap (λ (r : _). get_or (row r) c.args.span.before unread) c.deref.ensures.value in
    let late = c.stamps_at-upto.ensures
    ∙ ap (λ (r : _). get_or (row r) c.args.span.upto unread) c.deref-2.ensures.value in
    record {
      left = left_span taken c.requires.stamped tree c.requires.tree _ rows node
          c.requires.inner.0 c.requires.inner.1 c.args.span _ _ _ c.requires.span early late refl
          refl;
      right = right_span taken c.requires.stamped tree c.requires.tree _ rows node
          c.requires.inner.0 c.requires.inner.1 c.args.span _ _ _ c.requires.span early late refl
          refl;
    }
