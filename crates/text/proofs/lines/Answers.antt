-- The text was put from the front on, and the buffer shows it (`put-shows`). Assumes nothing.
use Rattle.text.proofs.Laid.{put-counts, put-shows}
use Rattle.text.proofs.lines.Goals as goal

pub returns : goal.returns
returns c = let p = c.put_lines.ensures in record { prefix_len = put-counts p; shows = put-shows p }
