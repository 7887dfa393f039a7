pub mod LineForms
pub mod SheetLines
