use Rattle.season.proofs.RoundTrip.{canonical_reads_back}
use Rattle.season.proofs.round_trip.canonical_text_reads_back.Goals as goal

pub returns : goal.returns
returns c = canonical_reads_back
