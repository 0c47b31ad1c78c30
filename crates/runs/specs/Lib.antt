pub mod OpenedKeys
