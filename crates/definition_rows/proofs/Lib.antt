pub mod Machines
mod CreationRows
mod ConvolverRows
mod ProcessorRows
mod ConnectionRows
mod AttributeRows
mod SourceRows
mod ParameterRows
mod ContextRows
mod DecodeRows
mod TurnRows
mod SoundRows
mod OrderRows
mod MomentRows
mod FieldRows
