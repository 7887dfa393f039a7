use Rattle.sheet.proofs.SheetLines.{read_exactly}
use Rattle.sheet.proofs.reading.sheets_are_read_exactly.Goals as goal

pub returns : goal.returns
returns c = read_exactly
