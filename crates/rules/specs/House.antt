-- What the tables of a house say, each table by row number.
--
--   Row      a message as it was sent: the sending station, the sender, the addressee, the tag (the counts that the
--            station had just before; the field's word is a timestamp) and the body; a row that the table does not
--            have holds no body
--   Sizes    how many stations, handsets, rows and places a handset the house has, and how long its tables are
--   House    the whole:
--              used     how many rows are in use; the names below it are those of the messages sent
--              counts   what each station's tally counts
--              notices  the handsets that are leaving each station, oldest first
--              passed   to which station each station last passed each handset on
--              place    where each handset is
--              handed   how many messages of each station have been handed to each handset
--              carried  what the tally that a handset carries with it counts
--              unread   each handset's unread list, by name (the field's word for the two lists is a mailbox)
--              back     each handset's back list: messages that are not ripe yet
--              rows     the roll
--              stage    where each message is
use Rattle.std.specs.Prelude.{ℕ, List, Option}
use Rattle.tally.specs.Counts.{Counts}
use Rattle.rules.specs.declared.place.Place.{Place}
use Rattle.rules.specs.declared.place.Stage.{Stage}
use Rattle.rules.specs.declared.place.Notice.{Notice}

pub record Row (B : Type 0) : Type 0 where
  pub station : ℕ
  pub sender : ℕ
  pub addressee : ℕ
  pub tag : Counts
  pub body : Option B

pub record Lengths : Type 0 where
  pub stations : ℕ
  pub handsets : ℕ
  pub roll : ℕ
  pub unread : ℕ
  pub back : ℕ
  pub notices : ℕ

pub record Sizes : Type 0 where
  pub stations : ℕ
  pub handsets : ℕ
  pub rows : ℕ
  pub places : ℕ
  pub lengths : Lengths

pub record House (B : Type 0) : Type 0 where
  pub sizes : Sizes
  pub used : ℕ
  pub counts : ℕ → Counts
  pub notices : ℕ → List Notice
  pub passed : ℕ → ℕ → Option ℕ
  pub place : ℕ → Place
  pub handed : Counts
  pub carried : ℕ → Counts
  pub unread : ℕ → List ℕ
  pub back : ℕ → List ℕ
  pub rows : ℕ → Row B
  pub stage : ℕ → Stage
