-- Each field has its proof with the crate's own pages; the board's list has each time as often as its windows give it, and these are the rows of the trip. Assumes
-- nothing.
use mathlib.Core.Path.{◌∙◌}
use Rattle.frequencies.proofs.WrittenRead.{written-is-read}
use Rattle.frequencies.proofs.ReadWritten.{read-is-written}
use Rattle.frequencies.proofs.Again.{read_again, written-again, read-refused, write-refused, read-once, write-once}
use Rattle.feeds.specs.Feeds.{trip_board, FeedRight}
use Rattle.boards.proofs.Outcome.{listed-right}
use Rattle.feeds.proofs.Trips.{read-gives, row_gives, row-each}

pub feed-right : FeedRight
feed-right = record {
  written_read = written-is-read;
  read-written = read-is-written;
  read_again = read_again;
  written-again = written-again;
  read-refused = read-refused;
  write-refused = write-refused;
  read-once = read-once;
  write-once = write-once;
  board = λ bytes trip. record {
    lists = λ lent o count e row q size f z.
        (listed-right (trip_board bytes trip o.windows count row) q size f).times z ∙ read-gives bytes trip lent o count e row z;
    gives = row_gives;
    each = row-each;
  };
}
