-- Row by row.
use Rattle.limit_desk.proofs.TreePosts.{posts_their_rows}
use Rattle.limit_desk.proofs.officer_law.officers_post_their_rows.Goals as goal

pub returns : goal.returns
returns c = posts_their_rows
