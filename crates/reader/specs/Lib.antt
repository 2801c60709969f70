-- What the reader answers, as functions of the file's meaning and of its sections.
pub mod Reader
