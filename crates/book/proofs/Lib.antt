pub mod SlotWrites
pub mod ArcsOfSlots
pub mod BookWrites
pub mod ArcChanges
pub mod WellFormedBooks
