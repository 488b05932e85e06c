-- Demand 2: an accepted build's outcome has the paper's numbers, order, index and values, a build refuses with 6 exactly if some closed chain is not
-- permitted, and files go there and back. Assumes nothing.
use Prim.Native.Nat.{ℕ, suc, zero, ◌<◌}
use mathlib.Core.Bool.{cond}
use mathlib.Core.Logic.{inr}
use mathlib.Core.Path.{◌≡◌, ap, sym, ◌∙◌, subst, subst⁻¹}
use lib.IntN.{pos}
use lib.ListN.{get_or, take}
use Rattle.integers.specs.Integers.{eq_z}
use Rattle.paper.specs.Lists.{nat, greatest, over}
use Rattle.paper.specs.Formula.{blank}
use Rattle.paper.specs.Net.{Values, afresh}
use Rattle.paper.specs.Tables.{Tables, net, is_made, inputs_of, values_in}
use Rattle.paper.specs.Chains.{outside, group_number, Barred}
use Rattle.paper.specs.Checks.{accepted, lowest, highest, Sound}
use Rattle.paper.specs.Calls.{number_of, BuildLent, BuildLeft, start_values, five_lines, build}
use Rattle.paper.specs.Reason.{reason_of}
use Rattle.paper.proofs.Lists.{map_same}
use Rattle.paper.proofs.Buffers.{get_d-below, over-at, over-front, over-same}
use Rattle.paper.proofs.Sizes.{sized-facts}
use Rattle.paper.proofs.Accept.{inputs-below}
use Rattle.paper.proofs.Lawful.{lawful}
use Rattle.paper.proofs.Reason.{reason-looks}
use Rattle.paper.proofs.Depends.{depends-low, grouped-yes}
use Rattle.paper.proofs.Outside.{outside_low}
use Rattle.paper.proofs.Groups.{group-same}
use Rattle.paper.proofs.Known.{build-known}
use Rattle.paper.proofs.Count.{size_same}
use Rattle.paper.proofs.Outcomes.{build-judged}
use Rattle.paper.specs.File.{bounded, ends_at, contents, counted, write, read, n_in, convert, cut}
use Rattle.paper.proofs.RoundTrips.{read_back, written_back}
use Rattle.paper.proofs.Converted.{there_and_back, same-model}
use Rattle.paper.proofs.Build.{BuildRight, build-right, circular-given, circular-only, circular-place}
use Rattle.records.specs.Stated.{BuildOutcome, left_built}
use Rattle.demands.specs.Refusals.{GivenExactly}
use Rattle.demands.proofs.Files.{moved_front}
use Rattle.demands.proofs.Judged.{Says, judged-says, says-judged}
use Rattle.demands.proofs.Sentences.{sentences-right}
use Rattle.demands.proofs.Undetermined.{choices-exactly}
use Rattle.demands.specs.Demands.{BuiltRight, Demand2}

-- ── build ──
module _ {l : BuildLent} (o : BuildOutcome l) where
  abbrev t : Tables
  t = l.tables

  pub built-right : number_of (left_built o).answer ≡ 0 → BuiltRight o
  built-right ok = record {
    not-circular = right.not-circular;
    determined = λ v low. right.determined v;
    numbers = λ v low.
        number_at v low ∙ right.numbers-meet v
        ∙ ap (λ xs. cond (is_made t v) (suc (greatest xs)) zero)
        (map_same (group_number t) (nat o.numbers) (outside (inputs_of t) t.n v) (λ i m. sym (number_at i (outside_low (inputs_of t) t.n (inputs-below t sound) v i m))));
    shared = λ v w down up.
        number_at v (depends-low (inputs_of t) t.n (inputs-below t sound) up)
        ∙ group-same t (inputs-below t sound) (sized-facts t sound.sized).n-some v w (grouped-yes (inputs_of t) t.n (inputs-below t sound) v w (inr (down, up)))
        ∙ sym (number_at w (depends-low (inputs_of t) t.n (inputs-below t sound) down));
    ordered = ap (λ (x : BuildLeft). x.order) o.stated ∙ right.ordered;
    indexed = ap (λ (x : BuildLeft). x.index) o.stated ∙ right.indexed;
    empty = ap (λ (x : BuildLeft). x.log_sizes) o.stated ∙ right.empty;
    stored = λ v low.
        value-at v low ∙ right.stored-meet v
        ∙ ap (λ x. cond (is_made t v) x (start_values l v))
        ((lawful t).looks v values (values_in t o.stored) (λ i m. sym (value-at i (inputs-below t sound v i ((lawful t).asks-in v values i m)))));
    reasons =
        ap (λ (x : BuildLeft). x.reasons) o.stated ∙ right.reasons
        ∙ over-same (λ v. reason_of t v values) t.n l.reasons (λ v. reason_of t v (values_in t o.stored))
        (λ v low. reason-looks values (values_in t o.stored) t v (λ i m. sym (value-at i (inputs-below t sound v i ((lawful t).asks-in v values i m)))));
    session =
        ap (λ (x : BuildLeft). x.session) o.stated ∙ right.session
        ∙ ap (λ k. record { kept = 0; evaluations = t.m; blanks = k }) (size_same _ _ t.n (λ v low. ap (λ z. eq_z z blank) (sym (value-at v low))));
  }
    where
      zero_is : number_of (build l).answer ≡ 0
      zero_is = sym (ap (λ (x : BuildLeft). number_of x.answer) o.stated) ∙ ok

      right : BuildRight l
      right = build-right l zero_is

      sound : Sound l.tables
      sound = (build-known l ((build-judged l).good zero_is)).sound

      values : Values
      values = afresh (net l.tables) (start_values l) l.tables.n

      number_at : (v : ℕ) → v < l.tables.n → nat o.numbers v ≡ group_number l.tables v
      number_at v low = ap (λ (x : BuildLeft). nat x.numbers v) o.stated ∙ ap (λ row. nat row v) right.numbers ∙ over-at (group_number t) t.n l.numbers v 0 low

      value-at : (v : ℕ) → v < l.tables.n → values_in l.tables o.stored v ≡ afresh (net l.tables) (start_values l) l.tables.n v
      value-at v low =
          ap (λ (x : BuildLeft). values_in t x.stored v) o.stated ∙ ap (λ row. values_in t row v) right.stored
          ∙ ap (λ row. get_or row v (pos 0)) (over-front values t.n l.stored) ∙ get_d-below values t.n v (pos 0) low

  pub circular-exactly : GivenExactly (five_lines l) 6 l.tables.n (Barred l.tables) (left_built o).answer
  circular-exactly = subst⁻¹ (λ (x : BuildLeft). GivenExactly (five_lines l) 6 l.tables.n (Barred l.tables) x.answer) o.stated (record {
    given = λ five v low c. circular-given l (says-judged (five_lines l) accepted five) (v, c);
    only = λ h. subst (Says (five_lines l)) (circular-only l h).0 (judged-says (five_lines l));
    place = circular-place l;
    none = λ z v low c. (build-right l z).not-circular (v, c);
  })

-- ── the demand ──
pub demand2 : Demand2
demand2 = record {
  sentences = sentences-right;
  build-accepted = λ l o. built-right o;
  build-circular = λ l o. circular-exactly o;
  choices = choices-exactly;
  read_back = λ v c lent w fit ok c₀ room r.
      subst⁻¹ (λ x. (x.0 ≡ accepted) × (cut v x.1 ≡ cut v c))
      (r.stated ∙ ap (λ x. let t = c.tables in read v (take (ends_at v t.n t.m t.e) x.1) (counted 0 0 0 c₀)) w.stated)
      (read_back v c lent fit (sym (ap (λ x. x.0) w.stated) ∙ ok) (counted 0 0 0 c₀) room);
  written_back = λ v bytes small c₀ r ok lent room w.
      w.stated ∙ ap (λ x. write v x.1 lent) r.stated ∙ written_back v bytes small (counted 0 0 0 c₀) (sym (ap (λ x. x.0) r.stated) ∙ ok) lent room;
  there_and_back = λ from to bytes small lent o ok lent₂ room p.
      p.stated ∙ ap (λ l. convert to from l lent₂) (moved_front o) ∙ there_and_back from to bytes small lent (sym (ap (λ x. x.0) o.stated) ∙ ok) lent₂ room;
  same-model = λ from to bytes lent o ok t starts lows₀ highs₀ lows highs room r was p.
      let rows = counted 0 0 0 (contents t starts lows highs) in let k = bounded to (n_in bytes) in
      p.stated ∙ ap (λ l. read to l rows) (moved_front o)
      ∙ same-model from to bytes lent (sym (ap (λ x. x.0) o.stated) ∙ ok) rows.tables starts lows₀ highs₀ lows highs (sym (ap (λ x. x.0) r.stated) ∙ was) room
      ∙ ap (λ x. (accepted, contents x.1.tables x.1.starts (over k (λ v. lowest) lows) (over k (λ v. highest) highs))) (sym r.stated);
}
