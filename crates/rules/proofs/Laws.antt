-- The theorems of each subject, put together.
use Rattle.rules.specs.Paths.{PathLaws}
use Rattle.rules.specs.Table.{TableLaws}
use Rattle.rules.specs.Alteration.{AlterationLaws}
use Rattle.rules.specs.Order.{OrderLaws}
use Rattle.rules.specs.Turn.{TurnLaws}
use Rattle.rules.specs.Image.{ImageLaws}
use Rattle.rules.specs.Report.{ReportLaws}
use Rattle.rules.proofs.PathParts.{reach_stands}
use Rattle.rules.proofs.Leads.{follower_stands, follows_stands}
use Rattle.rules.proofs.Distances.{layers_sound, found_sound}
use Rattle.rules.proofs.UnnamedStays.{unnamed_stays, before_or_after}
use Rattle.rules.proofs.FirstLists.{alike_tells_same, one_enumeration, one_first}
use Rattle.rules.proofs.TurnOrder.{turn_is_order}
use Rattle.rules.proofs.RowSearch.{placed_rows, discovery_in_turn, search_stands}
use Rattle.rules.proofs.OneImage.{one_image, turn_image}
use Rattle.rules.proofs.ImageReading.{equal_images}
use Rattle.rules.proofs.BitPlaces.{bit_places, byte_digits}
use Rattle.rules.proofs.RowCounts.{rows_count_reached, reached_at_least, kept_sets_stay, one_report, rows_count_sets}

pub path_laws : PathLaws
path_laws = record { reach = reach_stands; follower = follower_stands }

pub table_laws : TableLaws
table_laws = record { follows = follows_stands; layered = layers_sound; found = found_sound }

pub alteration_laws : AlterationLaws
alteration_laws = record { unnamed_stays = unnamed_stays; before_or_after = before_or_after }

pub order_laws : OrderLaws
order_laws = record { alike_tells_same = alike_tells_same; one_enumeration = one_enumeration; one_first = one_first }

pub turn_laws : TurnLaws
turn_laws = record { turn_is_order = turn_is_order; placed_rows = placed_rows; discovery_in_turn = discovery_in_turn; search_steps = search_stands }

pub image_laws : ImageLaws
image_laws = record { one_image = one_image; turn_image = turn_image; equal_images = equal_images; bit_places = bit_places; byte_digits = byte_digits }

pub report_laws : ReportLaws
report_laws = record {
  rows_count_reached = rows_count_reached;
  reached_at_least = reached_at_least;
  kept_sets_stay = kept_sets_stay;
  one_report = one_report;
  rows_count_sets = rows_count_sets;
}
