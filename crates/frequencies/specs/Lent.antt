-- The windows that a call is lent to write, and one of them. Assumes nothing.
use Rattle.std.specs.Prelude.{ℕ, ◌≤◌, List, [], length, nat_abs, take, drop}
use Rattle.paper.specs.Lists.{nat}
use Rattle.frequencies.specs.Reading as reading
use Rattle.frequencies.specs.Reading.{windows_in}
use Rattle.frequencies.specs.Writing.{name_of, line_bytes, start_at, end_at, headway_given, exact_given}
use Rattle.frequencies.specs.Puts.{Sayable}
use Rattle.frequencies.specs.declared.Windows.{Windows}
use Rattle.frequencies.specs.declared.lines.Window.{Window}

-- nothing is asked of lines
abbrev pub lent_windows : Windows → reading.Windows
lent_windows w = windows_in w.name_places.now w.name_lengths.now w.name_doubled.now w.starts.now w.ends.now w.headways.now w.exacts.now []

-- every row has a place for each window
pub record AllLent (w : Windows) : Type 0 where
  pub places : w.count ≤ length w.name_places.now
  pub lengths : w.count ≤ length w.name_lengths.now
  pub doubled : w.count ≤ length w.name_doubled.now
  pub starts : w.count ≤ length w.starts.now
  pub ends : w.count ≤ length w.ends.now
  pub headways : w.count ≤ length w.headways.now
  pub exacts : w.count ≤ length w.exacts.now

-- window i
abbrev pub window_at : reading.Windows → ℕ → Window
window_at w i = record {
  place = nat w.name_places i;
  size = nat w.name_lengths i;
  double = nat w.name_doubled i;
  start = start_at w i;
  end = end_at w i;
  headway = headway_given w i;
  exact = exact_given w i;
}

module _ (text : List ℕ) (w : Window) where
  -- a line can say it
  abbrev pub CanSay : Type 0
  CanSay = Sayable text w.place w.size w.double w.start w.end w.headway

  -- its line
  abbrev pub window_line : List ℕ
  window_line = line_bytes (name_of w.double (take w.size (drop w.place text))) (nat_abs w.start) (nat_abs w.end) (nat_abs w.headway) w.exact
